-- `cipher::cmac::doubled`: R_128 is added where the first bit is set.
use Rattle.std.proofs.Common.{◌^◌, ◌<◌, rules}
use Rattle.cipher.specs.Columns.{columns_state, words_state}
use Rattle.cipher.proofs.Doubling.{double-low, double-high}
use Rattle.cipher.proofs.cmac.doubled.Goals as goal

pub returns-then-s-lt2147483648 : goal.returns-then-s-lt2147483648
unfolding columns_state words_state
returns-then-s-lt2147483648 c =
    let s = c.args.s in
    let h : (s.c0 < 2 ^ 32) × (s.c1 < 2 ^ 32) × (s.c2 < 2 ^ 32) × (s.c3 < 2 ^ 32) = (search rules, search rules, search rules, search rules) in
    rw (c.shifted-c0.ensures, c.shifted-c1.ensures, c.shifted-c2.ensures, c.shifted-c3.ensures)
    (double-low s.c0 s.c1 s.c2 s.c3 h.0 h.1 h.2 h.3 c.if-s-lt2147483648.true)

pub returns : goal.returns
unfolding columns_state words_state
returns c =
    let s = c.args.s in
    let h : (s.c0 < 2 ^ 32) × (s.c1 < 2 ^ 32) × (s.c2 < 2 ^ 32) × (s.c3 < 2 ^ 32) = (search rules, search rules, search rules, search rules) in
    rw (c.shifted-c0.ensures, c.shifted-c1.ensures, c.shifted-c2.ensures, c.shifted-c3.ensures)
    (double-high s.c0 s.c1 s.c2 s.c3 h.0 h.1 h.2 h.3 c.if-s-lt2147483648.false)
