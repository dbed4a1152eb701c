-- Every statement of `specs/Laws`, with its proof.
use mathlib.Core.Path.{refl, ◌∙◌, sym, ap}
use lib.ListN.{length}
use borrow.Author.Tests.{eqb-true, eq-eqb}
use Rattle.buffers.specs.Compare.{diff_accumulate}
use Rattle.buffers.specs.Laws.{ByteLaws, OrderLaws, DifferenceLaws, NumberLaws}
use Rattle.buffers.proofs.Bytes.{bytes_eq-eq, eq-bytes_eq, le-value, length-le_bytes}
use Rattle.buffers.proofs.Folds.{diff-test}
use Rattle.buffers.proofs.Differences.{first_pairs, all-pairs, first_bit, bit-first, first_byte}
use Rattle.buffers.proofs.Order.{order-laws}
use Rattle.buffers.proofs.LittleEndian.{digit_at, two_at, four-at}

pub bytes : ByteLaws
bytes = record {
  equal = λ a b. (bytes_eq-eq a b, eq-bytes_eq a b);
  fill = λ n. refl;
}

pub order : OrderLaws
order = order-laws

pub differences : DifferenceLaws
differences = record {
  sixteen = λ a b ha hb. all-pairs a b (ha ∙ sym hb) ∙ ap (first_pairs a b) ha;
  bit = λ a b k h. (
    λ e. first_bit a b k (length a) (rw (all-pairs a b h) at e),
    λ d. rw (all-pairs a b h) (bit-first a b k (length a) d.0 d.1 d.2),
  );
  byte = λ a b h k. rw (all-pairs a b h) (first_byte a b (length a) k);
  yes = λ a b h. (
    λ e. bytes_eq-eq a b (sym (diff-test a b h) ∙ eq-eqb (diff_accumulate a b) 0 e),
    λ e. eqb-true (diff_accumulate a b) 0 (diff-test a b h ∙ eq-bytes_eq a b e),
  );
}

pub numbers : NumberLaws
numbers = record { width = length-le_bytes; digit = digit_at; value = le-value; two = two_at; four = four-at }
