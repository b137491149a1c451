-- The next stream comes after those that were read.
use Rattle.std.proofs.Common.{◌≡◌, Bor, Bool, ℕ, List, [], ◌∷◌, ◌++◌, Result, Ok, Err, drop, get_or, length, map, refl, sym, ap, ◌∙◌, ◌+◌, ◌<◌, arith}
use Rattle.std.proofs.lemmas.List.{append_assoc, at_drop_more, map-append}
use Rattle.pn_json.specs.Members.{texts}
use Rattle.pn_json.specs.Answers.{◌>>=◌}
use Rattle.pn_protocol.proofs.CommandLimits.{onto}
use Rattle.pn_arguments.specs.OptionTexts.{StreamValue, each_stream, stream_in, stream_value}
use Rattle.pn_arguments.specs.declared.faults.OptionFault.{OptionFault}
use Rattle.pn_arguments.proofs.streams.each_of.Goals as goal

then_rest : (done : List StreamValue) (stream : StreamValue) (rest : Result (List StreamValue) OptionFault)
    → onto done (rest >>= λ streams. Ok (stream ∷ streams)) ≡ onto (done ++ stream ∷ []) rest
then_rest done stream (Ok streams) = ap Ok (sym (append_assoc done (stream ∷ []) streams))
then_rest done stream (Err fault) = refl

one_more : (stays : Bool) (index : ℕ) (word : List ℕ) (words : List (List ℕ)) (stream : StreamValue) (done : List StreamValue)
    → stream_in stays index word ≡ Ok stream
    → onto done (each_stream stays index (word ∷ words)) ≡ onto (done ++ stream ∷ []) (each_stream stays (index + 1) words)
one_more stays index word words stream done is = rw is (then_rest done stream (each_stream stays (index + 1) words))

-- what stands past the end of arguments
abbrev no_word : Bor (List ℕ)
no_word = record { ref_ptr = (0, 0); now = [] }

pub loop-index-preserved : goal.loop-index-preserved
loop-index-preserved c =
    let within : c.loop-index.index < length c.args.words.now = omega (arith, c.loop-index-test.true) in
    let done = map stream_value c.loop-index.streams.items in
    let pushed = ap (map stream_value) c.push_reserved.ensures.items ∙ map-append stream_value c.loop-index.streams.items (c.in_ok-stream_of.field-0 ∷ []) in
    record {
      so_far = c.loop-index.invariant.so_far
          ∙ at_drop_more (λ words. onto done (each_stream c.args.stays c.loop-index.index (texts words))) c.args.words.now c.loop-index.index no_word within
          ∙ one_more c.args.stays c.loop-index.index (get_or c.args.words.now c.loop-index.index no_word).now
          (texts (drop (c.loop-index.index + 1) c.args.words.now)) _ done c.in_ok-stream_of.ensures
          ∙ ap (λ streams. onto streams (each_stream c.args.stays (c.loop-index.index + 1) (texts (drop (c.loop-index.index + 1) c.args.words.now))))
          (sym pushed);
      count = omega (arith, c.push_reserved.ensures.len, c.loop-index.invariant.count);
      capacity = c.push_reserved.ensures.capacity ∙ c.loop-index.invariant.capacity;
    }
