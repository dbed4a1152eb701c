-- `store::get::get_prepared`: the name is looked up, and the rest is as it stands there.
use mathlib.Core.Path.{ap}
use Rattle.spec.specs.Request.{Binding}
use Rattle.store.proofs.GetCall.{get-sane}
use Rattle.store.proofs.get.get_prepared.Goals as goal

pub look_up-looked-requires : goal.look_up-looked-requires
look_up-looked-requires c = get-sane c.args.kv.now c.args.rbp.now c.args.keys.now.device.now.key c.args.keys.now.name.now c.requires.name_value

pub get_found-requires : goal.get_found-requires
get_found-requires c =
    let args = c.args in
    let sane = get-sane args.kv.now args.rbp.now args.keys.now.device.now.key args.keys.now.name.now c.requires.name_value in
    record { sound = (sane.kv_sized, sane.kv_intact); found_value = c.look_up-looked.ensures.found; ready = c.requires.ready }

pub returns : goal.returns
returns c = c.get_found.ensures c.args.rbp.now c.requires.name_value (ap (λ (b : Binding). b.tag) c.look_up-looked.ensures.held)
