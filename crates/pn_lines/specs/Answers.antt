-- Answers to lines: at once, or gone on with.
use Rattle.std.specs.Prelude.{ℕ, ◌+◌, List}
use Rattle.pn_lines.specs.Handling.{Handling, Replied}
use Rattle.pn_lines.specs.declared.handler.LineOutcome.{LineOutcome}
use Rattle.pn_lines.specs.declared.handler.LineOutcome.TheVariants.{Done, Pending}
use Rattle.pn_lines.specs.declared.handler.EndedBy.{EndedBy}
use Rattle.pn_lines.specs.declared.handler.LineReply.{LineReply}

-- a reply, or what is gone on with
pub data AnswerValue (G : Type 0) : Type 0 where
  done : Replied → AnswerValue G
  pending : G → AnswerValue G

-- by the bytes of a reply's text
module _ {T : Type 0} (unmade : T → List ℕ) where
  -- a reply as its text and whether it is a refusal
  abbrev pub reply_of : LineReply T → Replied
  reply_of reply = record { text = unmade reply.text; refused = reply.is_refusal }

  -- an answer likewise
  abbrev pub answer_of : {G : Type 0} → LineOutcome G T → AnswerValue G
  answer_of (Done reply) = done (reply_of reply)
  answer_of (Pending g) = pending g

-- a line was answered, or begun
abbrev pub AnswersBy : {V G : Type 0} → Handling V G → V → EndedBy → List ℕ → V → AnswerValue G → Type 0
AnswersBy handling was ended line now (done replied) = handling.answers was ended line now replied
AnswersBy handling was ended line now (pending g) = handling.goes was ended line now g

-- how much of an answer is left, by how much is left of what is gone on with
abbrev pub answer_left : {G : Type 0} → (G → ℕ) → AnswerValue G → ℕ
answer_left left (done replied) = 0
answer_left left (pending g) = left g + 1
