-- A page that goes on from its first step to its last.
use Rattle.std.proofs.Common.{◌≡◌, ℕ, ◌+◌, ◌-◌, ◌*◌, ◌^◌, ◌<◌, ◌≤◌, List, [], ◌∷◌, ◌++◌, inl, inr, Result, Ok, Err, refl, sym, subst, arith}
use Rattle.pn_tablet.specs.Layouts.{Bounds}
use Rattle.pn_scan.specs.Pages.{Look, PageValue, first_page}
use Rattle.pn_scan.specs.Paging.{AreMade, EndsPage, Follows, IsNearer, IsNewWalk, IsOnPage, LookMade, PagesTo, looks_in, steps_left}
use Rattle.pn_scan.specs.Queries.{QueryValue}
use Rattle.pn_scan.specs.Views.{Looks, IsScan}
use Rattle.pn_scan.specs.WalkValues.{PageWalkValue}
use Rattle.pn_scan.specs.declared.view.ScanFault.{ScanFault}
use Rattle.pn_scan.specs.declared.page_walk.PageStep.{PageStep}
use Rattle.pn_scan.specs.declared.page_walk.PageStep.TheVariants.{Done, Next}
use Rattle.pn_scan.specs.declared.view.Page.{Page}
use Rattle.pn_scan.proofs.Scans.{new_page}
use Rattle.pn_scan.proofs.Paging.{begun_too}

abbrev page_value : Page → PageValue
page_value page = (page.rows.items, page.next)

-- by looks that nothing came between, a page is as far as the walk
abbrev pub IsPaging : {V : Type 0} → (V → Look → V → Type 0) → Bounds → QueryValue → V → V → PageWalkValue → Type 0
IsPaging {V} looks bounds query old now walk = (trace : List (LookMade V)) × Follows old trace now × IsOnPage looks bounds query walk trace

-- what a page has answered
abbrev pub HasPage : {V : Type 0} → (V → Look → V → Type 0) → Bounds → QueryValue → V → V → Result Page ScanFault → Type 0
HasPage looks bounds query old new answer = (seen : List Look) × IsScan looks bounds query old new page_value answer (first_page query) seen

-- before the first step
pub paging_none : {V : Type 0} (looks : V → Look → V → Type 0) (bounds layout : Bounds) (query : QueryValue) (now : V) (walk : PageWalkValue) → layout ≡ bounds → IsNewWalk layout query walk → IsPaging looks bounds query now now walk
paging_none looks bounds layout query now walk is new = ([], refl, new_page looks bounds query walk (subst (λ (b : Bounds). IsNewWalk b query walk) is new))

-- looks after looks
follows_append : {V : Type 0} (old mid new : V) (trace more : List (LookMade V)) → Follows old trace mid → Follows mid more new → Follows old (trace ++ more) new
follows_append old mid new [] more before after = subst (λ v. Follows v more new) before after
follows_append old mid new (made ∷ trace) more before after = (before.0, follows_append made.new mid new trace more before.1 after)

looks_made : {V : Type 0} (looks : V → Look → V → Type 0) (old new : V) (trace : List (LookMade V)) → AreMade looks trace → Follows old trace new → Looks looks old (looks_in trace) new
looks_made looks old new [] made follows = follows
looks_made looks old new (one ∷ trace) made follows = (one.new, subst (λ v. looks v one.look one.new) follows.0 made.0, looks_made looks one.new new trace made.1 follows.1)

module _ {V : Type 0} {looks : V → Look → V → Type 0} {bounds : Bounds} {query : QueryValue} {old now : V} {walk : PageWalkValue} (paging : IsPaging looks bounds query old now walk) {same : Bounds} (is_same : same ≡ bounds) where
  -- what a step says of its answer
  abbrev pub Goes : V → Result PageStep ScanFault → Type 0
  Goes new step = (trace : List (LookMade V)) → IsOnPage looks same query walk trace → PagesTo looks same query now new step trace

  gone : (new : V) (step : Result PageStep ScanFault) → Goes new step → PagesTo looks bounds query now new step paging.0
  gone new step goes = subst (λ (b : Bounds). PagesTo looks b query now new step paging.0) is_same (goes paging.0 (subst (λ (b : Bounds). IsOnPage looks b query walk paging.0) (sym is_same) paging.2))

  -- after a step that is not the last
  pub paging_on : {new : V} (step : PageStep) (next : PageWalkValue) → Goes new (Ok step) → step ≡ Next next → IsPaging looks bounds query old new next
  paging_on {new = new} step next goes is =
      let to : PagesTo looks bounds query now new (Ok (Next next)) paging.0 = subst (λ (s : PageStep). PagesTo looks bounds query now new (Ok s) paging.0) is (gone new (Ok step) goes) in
      (paging.0 ++ to.0, follows_append old now new paging.0 to.0 paging.1 to.1, to.2)

  -- after the last step
  pub paging_ends : {new : V} (step : PageStep) (page : Page) → Goes new (Ok step) → step ≡ Done page → HasPage looks bounds query old new (Ok page)
  paging_ends {new = new} step page goes is =
      let to : PagesTo looks bounds query now new (Ok (Done page)) paging.0 = subst (λ (s : PageStep). PagesTo looks bounds query now new (Ok s) paging.0) is (gone new (Ok step) goes) in
      let trace = paging.0 ++ to.0 in
      let ends : EndsPage looks bounds query (Ok (page_value page)) trace = to.2 in (
        looks_in trace,
        record {
          looked = looks_made looks old new trace ends.made (follows_append old now new paging.0 to.0 paging.1 to.1);
          visit = ends.visit;
          answers = ends.answers;
          whole = ends.whole;
          begun = tt;
        },
      )

  -- after one that failed
  pub paging_fails : {new : V} {answer : Result Page ScanFault} (why : ScanFault) → answer ≡ Err why → Goes new (Err why) → HasPage looks bounds query old new answer
  paging_fails {new = new} why failed goes =
      let to : PagesTo looks bounds query now new (Err why) paging.0 = gone new (Err why) goes in
      let trace = paging.0 ++ to.0 in
      let ends : EndsPage looks bounds query (Err why) trace = to.2 in
      let seen = looks_in trace in
      subst (HasPage looks bounds query old new) (sym failed) (
        seen,
        record {
          looked = looks_made looks old new trace ends.made (follows_append old now new paging.0 to.0 paging.1 to.1);
          visit = ends.visit;
          answers = ends.answers;
          whole = tt;
          begun = begun_too {A = Page} (Err why) trace ends.begun;
        },
      )

-- how far a page is from its end
abbrev pub paging_left : PageWalkValue → ℕ
paging_left walk = (walk.end - walk.next) * 2 ^ 129 + steps_left walk.part

pub nearer_left : (old next : PageWalkValue) (step : PageStep) → step ≡ Next next → IsNearer old step → steps_left next.part ≤ 2 ^ 128 → paging_left next < paging_left old
nearer_left old next step is nearer few =
    let near : IsNearer old (Next next) = subst (IsNearer old) is nearer in
    elim near [
      | inl fewer ↦ omega (arith, fewer, few)
      | inr less ↦ omega (arith, less.0, less.1, less.2)
    ]
