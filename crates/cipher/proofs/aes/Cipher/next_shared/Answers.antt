-- `cipher::aes::Cipher::next_shared`: made anew where the low word of the count is 0, else the high word is the same.
use Rattle.std.proofs.Common.{refl, ap, ◌∙◌, arith, w8}
use borrow.Kind.Array.{e_int, good_length}
use Rattle.cipher.specs.Aes.{kept_key}
use Rattle.cipher.specs.FirstRound.{shared_round}
use Rattle.cipher.proofs.Stream.{same-high, shared-next}
use Rattle.cipher.proofs.aes.Cipher.next_shared.Goals as goal

pub returns-then-next-eq0 : goal.returns-then-next-eq0
returns-then-next-eq0 c =
    let a = c.args in
    c.shared_round.ensures
    ∙ ap (shared_round (kept_key a.self.keys.now))
    (c.counter_columns.ensures)

pub returns : goal.returns
returns c =
    let a = c.args in
    let sized = good_length (e_int w8) 8 a.iv _ c.well_formed.1.0 in
    let same = same-high a.count _ c.ranges.count.fits refl (omega arith) in
    c.requires ∙ shared-next (kept_key a.self.keys.now) a.iv a.count _ sized same
