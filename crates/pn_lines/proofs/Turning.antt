-- What comes, is taken and goes, one after another.
use Rattle.std.proofs.Common.{◌≡◌, ◌⊎◌, ◌≤◌, ℕ, Bool, Option, None, Some, OnSome, List, [], ◌++◌, length, take, drop, inl, inr, refl, sym, ap, ◌∙◌, subst, append_assoc, append-nil, take-append-drop, ⊎_elim}
use Rattle.std.specs.Io.KnownBytes.{Appends, Consumes, IsAtEnd}
use Rattle.std.proofs.KnownBytes.{Appends-nil, Appends-trans, Consumes-nil, Consumes-trans}
use Rattle.pn_lines.specs.Engines.{EngineValue, IsPartAt}
use Rattle.pn_lines.specs.Handling.{Replied, Handling}
use Rattle.pn_lines.specs.Standing.{StageAt, Stands}
use Rattle.pn_lines.specs.Turns.{TurnValue, is_last, Moment, Moved, Moves, at}
use Rattle.pn_lines.specs.declared.engine.state.Stage.{Stage}
use Rattle.pn_lines.specs.declared.engine.state.Stage.TheVariants.{Reading, Pending, Ended}
use Rattle.pn_lines.specs.declared.turns.SourceState.{SourceState}
use Rattle.pn_lines.specs.declared.turns.SourceState.TheVariants.{AtEnd}

-- some bytes moved, and then others
abbrev pub then_moved : Moved → Moved → Moved
then_moved one two = record { came = one.came ++ two.came; took = one.took ++ two.took; went = one.went ++ two.went }

abbrev pub none_moved : Moved
none_moved = record { came = []; took = []; went = [] }

abbrev pub only_came : List ℕ → Moved
only_came bytes = record { came = bytes; took = []; went = [] }

abbrev pub only_took : List ℕ → Moved
only_took bytes = record { came = []; took = bytes; went = [] }

abbrev pub only_went : List ℕ → Moved
only_went bytes = record { came = []; took = []; went = bytes }

-- a source at its end stays there
end_stays : (a b c : Option (List ℕ)) (bs cs : List ℕ) → Consumes a b bs → Consumes b c cs → cs ≡ [] → OnSome a (IsAtEnd b) → OnSome a (IsAtEnd c)
end_stays None b c bs cs first second none done = tt
end_stays (Some x) None c bs cs first second none done = absurd first
end_stays (Some x) (Some y) None bs cs first second none done = absurd second
end_stays (Some x) (Some y) (Some z) bs cs first second none done = sym (second ∙ ap (λ (l : List ℕ). l ++ z) none) ∙ done

end_comes : (a b c : Option (List ℕ)) (bs : List ℕ) → Consumes a b bs → OnSome b (IsAtEnd c) → OnSome a (IsAtEnd c)
end_comes None b c bs first done = tt
end_comes (Some x) None c bs first done = absurd first
end_comes (Some x) (Some y) c bs first done = done

pub both_none : (xs ys : List ℕ) → xs ≡ [] → ys ≡ [] → xs ++ ys ≡ []
both_none xs ys one two = ap (λ (l : List ℕ). l ++ ys) one ∙ two

module _ {V G : Type 0} (handling : Handling V G) where
  stands_as : (start : V) (taken took given gave ahead also : List ℕ) (last : Bool) (machine : V) (run : EngineValue G) → taken ≡ took → given ≡ gave → ahead ≡ also → Stands handling start taken given ahead last machine run
      → Stands handling start took gave also last machine run
  stands_as start taken took given gave ahead also last machine run p q r is =
      subst (λ (l : List ℕ). Stands handling start took gave l last machine run) r
      (subst (λ (l : List ℕ). Stands handling start took l ahead last machine run) q
      (subst (λ (l : List ℕ). Stands handling start l given ahead last machine run) p is))

  -- while it reads, it does not matter what is at hand, nor whether that is the last
  reading_at : (stage : Stage G) (count most : ℕ) (left part : List ℕ) (lines : List (List ℕ)) (rest ahead also : List ℕ) (last close : Bool) (reached now : V) (more : List Replied) → IsPartAt stage part
      → StageAt handling stage count most left (record { lines = lines; rest = rest; ahead = ahead; last = last; reached = reached; now = now }) more
      → StageAt handling stage count most left (record { lines = lines; rest = rest; ahead = also; last = close; reached = reached; now = now }) more
  reading_at (Reading dropped) count most left part lines rest ahead also last close reached now more wants is =
      (record { moved = is.0.moved; unbroken = is.0.unbroken; dropped_is = is.0.dropped_is; counted = is.0.counted }, is.1)
  reading_at (Pending g ended) count most left part lines rest ahead also last close reached now more wants is = absurd wants
  reading_at (Ended end) count most left part lines rest ahead also last close reached now more wants is = absurd wants

  stands_reading : (start : V) (taken given part ahead also : List ℕ) (last close : Bool) (machine : V) (run : EngineValue G) → IsPartAt run.stage part → Stands handling start taken given ahead last machine run
      → Stands handling start taken given also close machine run
  stands_reading start taken given part ahead also last close machine run wants is = record {
    lines = is.lines;
    rest = is.rest;
    taken_is = is.taken_is;
    are_lines = is.are_lines;
    few = is.few;
    replies = is.replies;
    reached = is.reached;
    made = is.made;
    more = is.more;
    texts = is.texts;
    refused = is.refused;
    stage = reading_at run.stage run.counts.lines run.most run.left part is.lines is.rest ahead also last close is.reached machine is.more wants is.stage;
  }

  -- nothing moved
  pub Moves-none : (m : Moment V G) → Moves handling none_moved m m
  Moves-none m = record {
    comes = Consumes-nil m.left;
    goes = Appends-nil m.written;
    unread = append-nil m.kept.unread;
    ends = λ ended. inl (ended, refl);
    stands = λ start taken out is.
        stands_as start taken (taken ++ []) (out ++ m.kept.replies) ((out ++ []) ++ m.kept.replies) m.kept.unread m.kept.unread (is_last m.kept.source) m.machine m.kept.engine
        (sym (append-nil taken)) (ap (λ (l : List ℕ). l ++ m.kept.replies) (sym (append-nil out))) refl is;
  }

  -- one after another
  pub Moves-then : (one two : Moved) (a b c : Moment V G) → Moves handling one a b → Moves handling two b c → Moves handling (then_moved one two) a c
  Moves-then one two a b c first second = record {
    comes = Consumes-trans a.left b.left c.left one.came two.came first.comes second.comes;
    goes = Appends-trans a.written b.written c.written one.went two.went first.goes second.goes;
    unread = sym (append_assoc a.kept.unread one.came two.came) ∙ ap (λ (l : List ℕ). l ++ two.came) first.unread ∙ append_assoc one.took b.kept.unread two.came
        ∙ ap (λ (l : List ℕ). one.took ++ l) second.unread ∙ sym (append_assoc one.took two.took c.kept.unread);
    ends = λ ended.
        ⊎_elim
        (λ (both : (b.kept.source ≡ AtEnd) × (two.came ≡ [])).
        ⊎_elim
        (λ (before : (a.kept.source ≡ AtEnd) × (one.came ≡ [])). inl (before.0, both_none one.came two.came before.1 both.1))
        (λ (done : OnSome a.left (IsAtEnd b.left)). inr (end_stays a.left b.left c.left one.came two.came first.comes second.comes both.1 done))
        (first.ends both.0))
        (λ (done : OnSome b.left (IsAtEnd c.left)). inr (end_comes a.left b.left c.left one.came first.comes done))
        (second.ends ended);
    stands = λ start taken out is.
        stands_as start ((taken ++ one.took) ++ two.took) (taken ++ (one.took ++ two.took)) (((out ++ one.went) ++ two.went) ++ c.kept.replies) ((out ++ (one.went ++ two.went)) ++ c.kept.replies) c.kept.unread c.kept.unread
        (is_last c.kept.source) c.machine c.kept.engine
        (append_assoc taken one.took two.took) (ap (λ (l : List ℕ). l ++ c.kept.replies) (append_assoc out one.went two.went)) refl
        (second.stands start (taken ++ one.took) (out ++ one.went) (first.stands start taken out is));
  }

  -- the engine took the first bytes at hand
  pub Moves-took : (left written : Option (List ℕ)) (was now : V) (old new : EngineValue G) (bytes ahead : List ℕ) (n : ℕ) (replies waits : List ℕ) (source : SourceState) → ahead ≡ drop n bytes
      → ((start : V) (taken out : List ℕ) → Stands handling start taken (out ++ replies) bytes (is_last source) was old → Stands handling start (taken ++ take n bytes) (out ++ waits) (drop n bytes) (is_last source) now new)
      → Moves handling (only_took (take n bytes)) (at left written was (record { engine = old; unread = bytes; replies = replies; source = source })) (at left written now (record { engine = new; unread = ahead; replies = waits; source = source }))
  Moves-took left written was now old new bytes ahead n replies waits source same stands = record {
    comes = Consumes-nil left;
    goes = Appends-nil written;
    unread = append-nil bytes ∙ sym (take-append-drop n bytes) ∙ ap (λ (l : List ℕ). take n bytes ++ l) (sym same);
    ends = λ ended. inl (ended, refl);
    stands = λ start taken out is.
        stands_as start (taken ++ take n bytes) (taken ++ take n bytes) (out ++ waits) ((out ++ []) ++ waits) (drop n bytes) ahead (is_last source) now new
        refl (ap (λ (l : List ℕ). l ++ waits) (sym (append-nil out))) (sym same) (stands start taken out is);
  }

  -- some bytes came, or the end, while it reads
  pub Moves-came : (left leaves written : Option (List ℕ)) (machine : V) (run : EngineValue G) (old new bytes replies : List ℕ) (source now : SourceState) → Consumes left leaves bytes → new ≡ old ++ bytes → IsPartAt run.stage old
      → (now ≡ AtEnd → ((source ≡ AtEnd) × (bytes ≡ [])) ⊎ OnSome left (IsAtEnd leaves))
      → Moves handling (only_came bytes) (at left written machine (record { engine = run; unread = old; replies = replies; source = source })) (at leaves written machine (record { engine = run; unread = new; replies = replies; source = now }))
  Moves-came left leaves written machine run old new bytes replies source now comes same wants ends = record {
    comes = comes;
    goes = Appends-nil written;
    unread = sym same;
    ends = ends;
    stands = λ start taken out is.
        stands_reading start (taken ++ []) ((out ++ []) ++ replies) old old new (is_last source) (is_last now) machine run wants
        (stands_as start taken (taken ++ []) (out ++ replies) ((out ++ []) ++ replies) old old (is_last source) machine run (sym (append-nil taken)) (ap (λ (l : List ℕ). l ++ replies) (sym (append-nil out))) refl is);
  }

  -- the first bytes of the replies went
  pub Moves-went : (left before after : Option (List ℕ)) (machine : V) (kept : TurnValue G) (sent waits : List ℕ) → Appends before after sent → kept.replies ≡ sent ++ waits
      → Moves handling (only_went sent) (at left before machine kept) (at left after machine (record kept { replies = waits }))
  Moves-went left before after machine kept sent waits appends split = record {
    comes = Consumes-nil left;
    goes = appends;
    unread = append-nil kept.unread;
    ends = λ ended. inl (ended, refl);
    stands = λ start taken out is.
        stands_as start taken (taken ++ []) (out ++ kept.replies) ((out ++ sent) ++ waits) kept.unread kept.unread (is_last kept.source) machine kept.engine
        (sym (append-nil taken)) (ap (λ (l : List ℕ). out ++ l) split ∙ sym (append_assoc out sent waits)) refl is;
  }
