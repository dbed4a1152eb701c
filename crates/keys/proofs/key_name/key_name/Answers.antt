-- `keys::key_name::key_name`: the two tests of an identifier.
use Rattle.std.proofs.Common.{sym, ◌∙◌, inl, inr, arith}
use Rattle.keys.proofs.Digits.{no_name, high-name, name-digits}
use Rattle.keys.proofs.key_name.key_name.Goals as goal

pub returns-then-key_id-gt4294901759 : goal.returns-then-key_id-gt4294901759
returns-then-key_id-gt4294901759 c =
    elim c.if-key_id-gt4294901759.either [ inl h ↦ sym (no_name c.args.key_id h) | inr h ↦ sym (high-name c.args.key_id h.1) ]

pub returns-else-key_id-gt4294901759 : goal.returns-else-key_id-gt4294901759
returns-else-key_id-gt4294901759 c =
    c.key_digits.ensures ∙ sym (name-digits c.args.key_id (omega arith) (omega arith))
