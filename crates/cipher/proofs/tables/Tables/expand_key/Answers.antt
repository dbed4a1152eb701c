-- `cipher::tables::Tables::expand_key`. The invariant: `k` is round key r, `c` the constant for the next one, and the front of `keys` has the round keys up to r.
use Rattle.std.proofs.Common.{◌≡◌, ◌+◌, replicate, sym, refl, ap, ◌∙◌, add-one, arith, take_all, rules}
use Rattle.cipher.specs.Aes.{word_number, rcon, rcon_byte, round_key, next_round_key, state_numbers, expand_to, expand_key}
use Rattle.cipher.specs.Columns.{columns_state}
use Rattle.cipher.proofs.KeySchedule.{put_front, expand_step}
use Rattle.cipher.proofs.tables.Tables.expand_key.Goals as goal

pub loop-r-init : goal.loop-r-init
unfolding round_key expand_to word_number rcon rcon_byte
loop-r-init c =
    let put = c.put_round_key in
    let first = c.load-k.ensures in
    let front = put_front (replicate 44 0) put.new.keys 0 _ (search rules) put.ensures ∙ ap state_numbers first in
    (search rules, refl, first, front)

pub loop-r-preserved : goal.loop-r-preserved
unfolding round_key
loop-r-preserved c =
    let l = c.loop-r in
    let put = c.put_round_key-in-loop-r in
    let key = c.args.key.now in
    let next : columns_state c.next_round_key-k.result ≡ round_key key (l.r + 1) =
    rw add-one (c.next_round_key-k.ensures ∙ ap (next_round_key _) l.invariant.2) in
    let front = expand_step key l.keys put.new.keys l.r _ (omega arith) put.ensures l.invariant.3 next in
    (search rules, c.next_constant-c.ensures, next, front)

pub returns : goal.returns
unfolding expand_key
returns c =
    let l = c.loop-r in
    let ten : l.r ≡ 10 = omega arith in
    sym (take_all 44 l.keys (omega arith)) ∙ rw ten at l.invariant.3
