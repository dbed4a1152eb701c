-- `mix::find::Records::card`: the areas were judged.
use Rattle.mix.proofs.Tried.{sane}
use Rattle.mix.proofs.find.Records.card.Goals as goal

pub invariant_of-result : goal.invariant_of-result
invariant_of-result c =
    let r = c.args.self.now in
    let u = sane r.kv.now r.rbp.now r.device.now.key r.passed in
    record { sound = (u.kv_sized, u.kv_intact) }
