-- Where the line's end was met, the line is the first of the text; and where not, none is.
use Rattle.std.proofs.Common.{Ok, [], sym, ap, ◌∙◌}
use Rattle.pn_line.specs.Line.{ReadsTo}
use Rattle.pn_stream.proofs.Runs.{passed_on}
use Rattle.pn_stream.proofs.Steps.{fault_stands, input_ended, newline_read, next_end, no_line, next_line, next_ok, next_err, part-none, IsPart-more}
use Rattle.pn_stream.proofs.next.next_message.Goals as goal

pub returns-in_err-more-clause-stands : goal.returns-in_err-more-clause-stands
returns-in_err-more-clause-stands g c =
    passed_on c.from_residual.result c.in_err-more.field-0.0 _ c.from_residual.ensures.1
    (fault_stands c.read_bounded_line.result c.in_err-more.field-0.0 c.args.wanted _ _ _ _ c.requires (sym c.in_err-more.ensures) c.read_bounded_line.ensures.takes)

pub returns-in_default-clause-next : goal.returns-in_default-clause-next
returns-in_default-clause-next g c =
    let ended = sym c.in_ok-more.ensures ∙ ap Ok (no_line _ c.in_default.not-Some) in
    next_end _ _ _ _ c.requires (input_ended c.read_bounded_line.result (λ end. ReadsTo end c.args.line.now c.read_bounded_line.new.line _ _) ended c.read_bounded_line.ensures.takes)

pub returns-in_default-clause-part : goal.returns-in_default-clause-part
returns-in_default-clause-part g c =
    let ended = sym c.in_ok-more.ensures ∙ ap Ok (no_line _ c.in_default.not-Some) in
    let reads = input_ended c.read_bounded_line.result (λ end. ReadsTo end c.args.line.now c.read_bounded_line.new.line _ _) ended c.read_bounded_line.ensures.takes in
    IsPart-more _ _ _ _ [] c.requires reads.0 reads.2

pub returns-in_err-at-clause-stands : goal.returns-in_err-at-clause-stands
returns-in_err-at-clause-stands g c =
    let whole = sym c.in_ok-more.ensures ∙ ap Ok c.in-Some.is in
    let takes = next_line _ _ _ _ _ c.requires (newline_read c.read_bounded_line.result c.in-Some.more (λ end. ReadsTo end c.args.line.now c.read_bounded_line.new.line _ _) whole c.read_bounded_line.ensures.takes) in
    passed_on c.from_residual-in_err-at.result c.in_err-at.field-0.0 _ c.from_residual-in_err-at.ensures.1 (next_err _ _ _ _ _ _ takes (rw c.bytes.ensures at c.in_err-at.ensures.err))

pub returns-clause-next : goal.returns-clause-next
returns-clause-next g c =
    let whole = sym c.in_ok-more.ensures ∙ ap Ok c.in-Some.is in
    let takes = next_line _ _ _ _ _ c.requires (newline_read c.read_bounded_line.result c.in-Some.more (λ end. ReadsTo end c.args.line.now c.read_bounded_line.new.line _ _) whole c.read_bounded_line.ensures.takes) in
    next_ok _ _ _ (record { at = c.in_ok-at.at; image = c.in_ok-at.image; more = c.in-Some.more }) _ _ takes (rw c.bytes.ensures at c.in_ok-at.ensures.ok) (part-none _ c.start.ensures)

pub returns-clause-taken : goal.returns-clause-taken
returns-clause-taken g c =
    let whole = sym c.in_ok-more.ensures ∙ ap Ok c.in-Some.is in record {
      none = part-none _ c.start.ensures;
      more = (newline_read c.read_bounded_line.result c.in-Some.more (λ end. ReadsTo end c.args.line.now c.read_bounded_line.new.line _ _) whole c.read_bounded_line.ensures.takes).2;
      in_range = c.in_ok-at.ensures.ok.spelled.position;
    }
