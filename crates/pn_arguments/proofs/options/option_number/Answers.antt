-- The number of an option is that of its text.
use Rattle.std.proofs.Common.{◌≡◌, ℕ, Bool, true, false, cond, List, Option, Some, None, Result, Ok, Err, refl, ap, arith, ◌∙◌}
use Rattle.std.specs.Prelude.{max, min, option_and_then, unwrap_or}
use Rattle.std.specs.Str.Parse.{ParsesUnsigned, ExplainsUnsignedError, HasUnsignedDigitsIfOk, digits_value, without_leading_plus}
use Rattle.clap.proofs.ValueTestLemmas.{Accepts-accepts, accepts-Accepts}
use Rattle.clap.proofs.WalkLemmas.{one_text-rows}
use Rattle.clap.specs.Matches.{ReadsOne, found_of}
use Rattle.clap.specs.ValueTests.{is_unsigned_in}
use Rattle.clap.specs.declared.builder.value_parser.ValueParser.TheVariants as values
use Rattle.pn_arguments.specs.Commands.{number_in}
use Rattle.pn_arguments.proofs.options.option_number.Goals as goal

reads_number : (E : Type 0) (G : List ℕ → Result ℕ E → Type 0) → ((u : List ℕ) (x : Result ℕ E) → G u x → ParsesUnsigned 32 10 u x)
    → (text : List ℕ) (r : Option ℕ) → ReadsOne G text r → r ≡ number_in text
reads_number E G parses text (Some n) read =
    let parsed = parses text (Ok n) read in
    let passes : is_unsigned_in 0 4294967295 text ≡ true =
    Accepts-accepts false (values.Unsigned 0 4294967295) text (parsed.0.0, omega arith, omega arith, omega arith) in
    rw passes (ap Some parsed.1)
reads_number E G parses text None read = none (is_unsigned_in 0 4294967295 text) refl
  where
    none : (b : Bool) → is_unsigned_in 0 4294967295 text ≡ b → ◌≡◌ {A = Option ℕ} None (cond b (Some (digits_value 10 (without_leading_plus text))) None)
    none true is =
        let fits = accepts-Accepts false (values.Unsigned 0 4294967295) text is in
        absurd (parses text (Err read.0) read.1 (fits.0, omega arith))
    none false is = refl

reads_option : (E : Type 0) (G : List ℕ → Result ℕ E → Type 0) → ((u : List ℕ) (x : Result ℕ E) → G u x → ParsesUnsigned 32 10 u x)
    → (o : Option (List ℕ)) (r : Option ℕ) → (o ≡ None → r ≡ None) → ((t : List ℕ) → o ≡ Some t → ReadsOne G t r) → r ≡ option_and_then number_in o
reads_option E G parses None r none value = none refl
reads_option E G parses (Some t) r none value = reads_number E G parses t r (value t refl)

pub returns-clause-number : goal.returns-clause-number
returns-clause-number c =
    let read = reads_option _ (λ bs r. ParsesUnsigned 32 10 bs r × ExplainsUnsignedError 10 bs r × HasUnsignedDigitsIfOk bs r) (λ u x g. g.0)
    _ c.get_one.result c.get_one.ensures.none c.get_one.ensures.value
    ∙ ap (option_and_then number_in) (one_text-rows (found_of c.args.options.now) c.args.name.now) in
    c.clamp.ensures ∙ ap (λ (n : ℕ). max 1 (min n c.args.most)) (c.unwrap_or.ensures ∙ ap (λ (o : Option ℕ). unwrap_or o 1) read)

pub returns-clause-within : goal.returns-clause-within
returns-clause-within c = (omega (arith, c.clamp.ensures), omega (arith, c.clamp.ensures, c.requires))
