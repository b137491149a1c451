-- Each piece is added after those before it, and leaves less.
use Rattle.std.proofs.Common.{◌≡◌, ◌⊎◌, ◌+◌, ◌<◌, length, vec_capacity, vec_len}
use Rattle.pn_lines.specs.Giving.{Gives}
use Rattle.pn_lines.specs.declared.engine.TheConstants.{BLOCK_BYTES}
use Rattle.pn_lines.specs.declared.finding.TheConstants.{MAX_PIECE_BYTES}
use Rattle.pn_lines.proofs.engine.state.fill.Given as goal

abbrev pub invariant-pieces : goal.invariant-pieces
invariant-pieces g l = record {
  gives : Gives (g.T.PieceText.unmade l.initial.text) (g.T.PieceText.unmade l.text) l.initial.replies l.replies;
  few : vec_len l.replies < vec_len l.initial.replies + BLOCK_BYTES + MAX_PIECE_BYTES;
  begun : (length (g.T.PieceText.unmade l.text) < length (g.T.PieceText.unmade l.initial.text)) ⊎ ((g.T.PieceText.unmade l.text ≡ g.T.PieceText.unmade l.initial.text) × (vec_len l.replies ≡ vec_len l.initial.replies) × (vec_capacity l.replies ≡ vec_capacity l.initial.replies));
}

abbrev pub decreases-pieces : goal.decreases-pieces
decreases-pieces g l = length (g.T.PieceText.unmade l.text)
