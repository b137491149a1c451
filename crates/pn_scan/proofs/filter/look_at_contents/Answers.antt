-- A content that meets the conditions decides; one that is too much is left.
use Rattle.std.proofs.Common.{◌≡◌, ◌+◌, ◌≤◌, ◌<◌, length, max, inl, inr, map, refl, sym, ap, ◌∙◌, arith}
use Rattle.pn_scan.specs.Queries.{shown_condition}
use Rattle.pn_scan.proofs.Walking.{no_work, none_shows, one_hides, one_shows, went_on, work_hidden, work_shown}
use Rattle.pn_scan.proofs.filter.look_at_contents.Goals as goal

pub loop-index-init : goal.loop-index-init
loop-index-init c = record { same = refl; counted = refl; few = omega (arith, c.requires); since = omega arith; further = inr refl }

pub returns-then-not-is_allowed-clause-stopped : goal.returns-then-not-is_allowed-clause-stopped
returns-then-not-is_allowed-clause-stopped c = λ stop.
    let was = c.loop-index.invariant in
    rw c.look_to.ensures (was.same, omega (arith, was.counted, was.few), λ first. went_on c.args.from c.loop-index.index _ _ was.further (c.is_allowed.ensures.no c.if-not-is_allowed.true) first)

pub returns-then-shows-clause-known : goal.returns-then-shows-clause-known
returns-then-shows-clause-known c = λ known.
    let was = c.loop-index.invariant in
    let cs = map shown_condition c.args.conditions.now in
    let xs = c.args.contents.now in
    let i = c.loop-index.index in
    let within : i < length xs = omega arith in
    let x = c.index-contents-index.result in
    let meets = sym c.shows.ensures ∙ c.if-shows.true in
    let work = work_shown cs xs i x c.index-contents-index.is within meets in
    let fits = c.is_allowed.ensures.yes c.if-not-is_allowed.false in
    rw c.look_to-then-shows.ensures (
      one_shows cs xs i x c.index-contents-index.is within meets ∙ was.same,
      omega (arith, c.saturating_add-now.ensures, fits, was.counted, work, c.content_work-more.ensures.work),
      omega (arith, c.saturating_add-now.ensures, fits),
    )

pub loop-index-preserved : goal.loop-index-preserved
loop-index-preserved c =
    let was = c.loop-index.invariant in
    let cs = map shown_condition c.args.conditions.now in
    let xs = c.args.contents.now in
    let i = c.loop-index.index in
    let within : i < length xs = omega arith in
    let x = c.index-contents-index.result in
    let differs = sym c.shows.ensures ∙ c.if-shows.false in
    let work = work_hidden cs xs i x c.index-contents-index.is within differs in
    let fits = c.is_allowed.ensures.yes c.if-not-is_allowed.false in
    record {
      same = one_hides cs xs i x c.index-contents-index.is within differs ∙ was.same;
      counted = omega (arith, c.saturating_add-now.ensures, fits, was.counted, work, c.content_work-more.ensures.work);
      few = omega (arith, c.saturating_add-now.ensures, fits);
      since = omega (arith, was.since);
      further = inl (omega (arith, was.since));
    }

pub returns-clause-known : goal.returns-clause-known
returns-clause-known c = λ known.
    let was = c.loop-index.invariant in
    let cs = map shown_condition c.args.conditions.now in
    let xs = c.args.contents.now in
    let past : length xs ≤ c.loop-index.index = omega arith in
    rw c.look_to-2.ensures (none_shows cs xs c.loop-index.index past ∙ was.same, omega (arith, was.counted, no_work cs xs c.loop-index.index past), was.few)
