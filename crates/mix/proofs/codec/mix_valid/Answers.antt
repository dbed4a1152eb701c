-- `mix::codec::mix_valid`: header, count, length, sends.
use mathlib.Core.Path.{sym, ◌∙◌}
use lib.ListN.{length}
use borrow.Author.Tests.{le-leb, lt-leb}
use Rattle.buffers.proofs.Split.{clash}
use Rattle.mix.specs.Mix.{count_at, mix_valid}
use Rattle.mix.proofs.codec.mix_valid.Goals as goal
use Rattle.mix.proofs.codec.mix_valid.Goals.{then-count-le-MAX_SENDS, else-count-le-MAX_SENDS}

pub returns-then-b-lt-MIX_HEADER : goal.returns-then-b-lt-MIX_HEADER
unfolding mix_valid
returns-then-b-lt-MIX_HEADER c = rw (lt-leb 9 (length c.args.b.now) c.if-b-lt-MIX_HEADER.true)

pub returns-then-b-count : goal.returns-then-b-count
unfolding mix_valid
returns-then-b-count c =
    let b = c.args.b.now in
    let header = le-leb 9 (length b) c.if-b-lt-MIX_HEADER.false in
    elim c.if-count-le-MAX_SENDS.branch [
      | then-count-le-MAX_SENDS w ↦
          rw (header, le-leb (count_at b) 16 w.if-count-le-MAX_SENDS.true, sym w.value-is ∙ c.if-b-count.true) c.sends_valid.ensures
      | else-count-le-MAX_SENDS w ↦ clash _ c.if-b-count.true (w.value-is ∙ lt-leb (count_at b) 16 w.if-count-le-MAX_SENDS.false)
    ]

pub returns-else-b-count : goal.returns-else-b-count
unfolding mix_valid
returns-else-b-count c =
    let b = c.args.b.now in
    let header = le-leb 9 (length b) c.if-b-lt-MIX_HEADER.false in
    elim c.if-count-le-MAX_SENDS.branch [
      | then-count-le-MAX_SENDS w ↦
          rw (header, le-leb (count_at b) 16 w.if-count-le-MAX_SENDS.true, sym w.value-is ∙ c.if-b-count.false) c.if-b-count.false
      | else-count-le-MAX_SENDS w ↦ rw (header, lt-leb (count_at b) 16 w.if-count-le-MAX_SENDS.false) c.if-b-count.false
    ]
