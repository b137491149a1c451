-- The later of two positions has the longer list.
use Rattle.std.proofs.Common.{◌≡◌, ◌⊎◌, ◌<◌, ◌≤◌, nat_lt, Bool, true, false, if◌then◌else◌, List, length, refl, sym, ap, inl, inr, ⊎_elim, arith, length-append}
use Rattle.std.proofs.lemmas.Bool.Decides.{nat_tests}
use mathlib.Core.List.{IsPrefix}
use Rattle.pn_live.specs.Attempts.{settled_of}
use Rattle.pn_live.specs.Readers.{longer_of}
use Rattle.pn_live.proofs.Prefixes.{begins_no_more}
use Rattle.pn_live.proofs.reader_handle.ReaderHandle.learn.Goals as goal

no_longer : {A : Type 0} (xs ys : List A) → IsPrefix xs ys → length xs ≤ length ys
no_longer xs ys p = omega (arith, ap length p.1, length-append xs p.0)

-- of two lists that both begin one of them, that one is the longer
longer_is : {A : Type 0} (xs ys zs : List A) → (zs ≡ xs) ⊎ (zs ≡ ys) → IsPrefix xs zs → IsPrefix ys zs → zs ≡ longer_of xs ys
longer_is xs ys zs one p q = by_test (nat_lt (length xs) (length ys)) refl
  where
    by_test : (b : Bool) → nat_lt (length xs) (length ys) ≡ b → zs ≡ (if b then ys else xs)
    by_test true is =
        let more : length xs < length ys = grind (arith, nat_tests) in
        ⊎_elim (λ (same : zs ≡ xs). absurd (omega (arith, more, ap length same, no_longer ys zs q))) (λ (same : zs ≡ ys). same) one
    by_test false is =
        let less : length ys ≤ length xs = grind (arith, nat_tests) in
        ⊎_elim (λ (same : zs ≡ xs). same) (λ (same : zs ≡ ys). sym (begins_no_more xs zs p (omega (arith, less, ap length same)))) one

pub returns-clause-longer : goal.returns-clause-longer
returns-clause-longer c =
    let own = c.args.self.now.learnt in
    let note = c.args.note in
    let said = c.later-later.ensures in
    longer_is (settled_of own.seen.log) (settled_of note.seen.log) (settled_of c.later-later.result.seen.log)
    (⊎_elim (λ (same : c.later-later.result ≡ own). inl (ap (λ p. settled_of p.seen.log) same)) (λ (same : c.later-later.result ≡ note). inr (ap (λ p. settled_of p.seen.log) same)) said.one)
    said.this said.that
