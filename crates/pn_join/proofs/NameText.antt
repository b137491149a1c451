-- A name is ASCII, and so it is text; and how it stands in its array.
use Rattle.std.proofs.Common.{◌≡◌, ℕ, ◌<◌, ◌≤◌, zero, suc, true, List, [], ◌∷◌, ◌++◌, length, take, drop, replicate, slice_index, IsTrue, sym, subst, ◌∙◌, ap, arith}
use Rattle.std.proofs.Math.Seq.{take-append_seam}
use Rattle.std.proofs.lemmas.List.{drop-replicate}
use Rattle.std.specs.List.{list_all}
use Rattle.std.specs.Str.{IsUtf8}
use Rattle.std.proofs.lemmas.Str.{IsUtf8-from_ascii}
use Rattle.std.proofs.lemmas.Bool.Decides.{nat_tests}
use Rattle.pn_join.specs.Naming.{is_name, is_name_byte, padded_name, HoldsName}
use Rattle.pn_join.specs.declared.marks.name.TheConstants.{MAX_NAME_BYTES}

-- no byte of a name is above ASCII
below_128 : (bytes : List ℕ) → list_all is_name_byte bytes ≡ true → (i : ℕ) → slice_index bytes i < 128
below_128 [] named i = omega arith
below_128 (b ∷ bytes) named zero = grind (arith, nat_tests)
below_128 (b ∷ bytes) named (suc i) = below_128 bytes (grind (arith, nat_tests)) i

pub IsUtf8-name : (bytes : List ℕ) → IsTrue (is_name bytes) → IsUtf8 bytes
IsUtf8-name bytes named = IsUtf8-from_ascii bytes (below_128 bytes (grind (arith, nat_tests)))

-- a name written over the first of a list of zeros
pub HoldsName-written : (text : List ℕ) → IsTrue (is_name text) → HoldsName (text ++ drop (length text) (replicate MAX_NAME_BYTES 0)) (length text)
HoldsName-written text named =
    let whole = text ++ drop (length text) (replicate MAX_NAME_BYTES 0) in
    let first : text ≡ take (length text) whole = sym (take-append_seam text (drop (length text) (replicate MAX_NAME_BYTES 0))) in
    let short : length text ≤ MAX_NAME_BYTES = grind (arith, nat_tests) in
    record {
      within = short;
      named = subst (λ name. IsTrue (is_name name)) first named;
      bytes = ap padded_name (sym first) ∙ ap (λ zeros. text ++ zeros) (sym (drop-replicate (length text) MAX_NAME_BYTES 0));
      len = ap length (sym first);
    }
