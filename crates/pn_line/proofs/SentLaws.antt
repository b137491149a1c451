-- How sendings join: one write after another, a prefix and then the rest, and where a writer failed.
use Rattle.std.proofs.Common.{◌≡◌, ℕ, ◌-◌, Option, List, [], ◌++◌, length, take, drop, refl, sym, ap, ◌∙◌, append_assoc, append-nil, take-append-drop, subst}
use Rattle.std.proofs.lemmas.List.{take_rest}
use Rattle.std.specs.Io.KnownBytes.{Appends}
use Rattle.std.proofs.KnownBytes.{Appends-nil, Appends-trans}
use Rattle.pn_line.specs.Sent.{AppendsPrefix, Sends}

-- one more write, of the first n bytes of what was left
pub goes_on : (a b c : Option (List ℕ)) (all done rest : List ℕ) (n : ℕ) → Appends a b done → done ++ rest ≡ all → Appends b c (take n rest)
    → (x : List ℕ) × Appends a c x × (x ++ take (length rest - n) (drop n rest) ≡ all)
goes_on a b c all done rest n sent whole more = (
  done ++ take n rest,
  Appends-trans a b c _ _ sent more,
  append_assoc done (take n rest) (take (length rest - n) (drop n rest)) ∙ ap (λ l. done ++ (take n rest ++ l)) (take_rest rest n) ∙ ap (λ l. done ++ l) (take-append-drop n rest) ∙ whole,
)

-- a prefix of some bytes is a prefix of those and more
pub AppendsPrefix-more : {a b : Option (List ℕ)} {bs : List ℕ} (cs : List ℕ) → AppendsPrefix a b bs → AppendsPrefix a b (bs ++ cs)
AppendsPrefix-more cs prefix = record {
  sent = prefix.sent;
  back = prefix.back ++ cs;
  appends = prefix.appends;
  whole = sym (append_assoc prefix.sent prefix.back cs) ∙ ap (λ l. l ++ cs) prefix.whole;
}

-- some bytes whole, and then a prefix of others
pub AppendsPrefix-after : (a b c : Option (List ℕ)) (bs : List ℕ) {cs : List ℕ} → Appends a b bs → AppendsPrefix b c cs → AppendsPrefix a c (bs ++ cs)
AppendsPrefix-after a b c bs sent prefix = record {
  sent = bs ++ prefix.sent;
  back = prefix.back;
  appends = Appends-trans a b c _ _ sent prefix.appends;
  whole = append_assoc bs prefix.sent prefix.back ∙ ap (λ l. bs ++ l) prefix.whole;
}

-- bytes that went out whole are a prefix of themselves
pub AppendsPrefix-whole : (a b : Option (List ℕ)) (bs : List ℕ) → Appends a b bs → AppendsPrefix a b bs
AppendsPrefix-whole a b bs sent = record { sent = bs; back = []; appends = sent; whole = append-nil bs }

-- before the first push nothing went out and nothing waits
pub Sends-none : (a : Option (List ℕ)) → Sends a a [] [] []
Sends-none a = record { sent = []; appends = Appends-nil a; whole = refl }

-- what waited went out whole, and nothing waits
pub Sends-all : (a b : Option (List ℕ)) (waited : List ℕ) → Appends a b waited → Sends a b waited [] []
Sends-all a b waited sent = record { sent = waited; appends = sent; whole = refl }

-- two pushes are a push of both
pub Sends-trans : {a b c : Option (List ℕ)} {waited between waits bs cs : List ℕ} → Sends a b waited between bs → Sends b c between waits cs
    → Sends a c waited waits (bs ++ cs)
Sends-trans {a = a} {b = b} {c = c} {waited = waited} {waits = waits} {bs = bs} {cs = cs} first second = record {
  sent = first.sent ++ second.sent;
  appends = Appends-trans a b c _ _ first.appends second.appends;
  whole = append_assoc first.sent second.sent waits ∙ ap (λ l. first.sent ++ l) second.whole ∙ sym (append_assoc first.sent _ cs)
      ∙ ap (λ l. l ++ cs) first.whole ∙ append_assoc waited bs cs;
}

-- what waited goes out whole, and then these bytes do, and nothing waits
pub Sends-direct : (a b c : Option (List ℕ)) (waited waits bs : List ℕ) → Appends a b waited → waits ≡ [] → Appends b c bs → Sends a c waited waits bs
Sends-direct a b c waited waits bs sent none more = record {
  sent = waited ++ bs;
  appends = Appends-trans a b c _ _ sent more;
  whole = ap (λ l. (waited ++ bs) ++ l) none ∙ append-nil (waited ++ bs);
}

-- where all that waited goes out after some pushes, all of their bytes went out
pub Sends-flushed : {a b : Option (List ℕ)} (c : Option (List ℕ)) {waited between bs : List ℕ} → Sends a b waited between bs → Appends b c between
    → Appends a c (waited ++ bs)
Sends-flushed {a = a} {b = b} c first sent =
    let P : List ℕ → Type 0 = Appends a c in subst P first.whole (Appends-trans a b c _ _ first.appends sent)

-- where the writer fails after some pushes, a prefix of all the bytes went out
pub Sends-cut : {a b c : Option (List ℕ)} {waited between bs : List ℕ} (cs : List ℕ) → Sends a b waited between bs → AppendsPrefix b c (between ++ cs)
    → AppendsPrefix a c (waited ++ (bs ++ cs))
Sends-cut {waited = waited} {between = between} {bs = bs} cs first prefix = record {
  sent = first.sent ++ prefix.sent;
  back = prefix.back;
  appends = Appends-trans _ _ _ _ _ first.appends prefix.appends;
  whole = append_assoc first.sent prefix.sent prefix.back ∙ ap (λ l. first.sent ++ l) prefix.whole ∙ sym (append_assoc first.sent between cs)
      ∙ ap (λ l. l ++ cs) first.whole ∙ append_assoc waited bs cs;
}

-- the same where the writer fails at a flush
pub Sends-cut_flush : {a b c : Option (List ℕ)} {waited between bs : List ℕ} → Sends a b waited between bs → AppendsPrefix b c between → AppendsPrefix a c (waited ++ bs)
Sends-cut_flush {waited = waited} {bs = bs} first prefix = record {
  sent = first.sent ++ prefix.sent;
  back = prefix.back;
  appends = Appends-trans _ _ _ _ _ first.appends prefix.appends;
  whole = append_assoc first.sent prefix.sent prefix.back ∙ ap (λ l. first.sent ++ l) prefix.whole ∙ first.whole;
}
