-- `records::keys::Keys::open_record`: there is room for all data, and behind them the buffer has its zeros.
use mathlib.Core.Path.{◌≡◌}
use native.Mathlib.Omega.{arith}
use Rattle.spec.specs.Record.{data_size_of}
use Rattle.spec.proofs.Record.{valid-record}
use Rattle.records.proofs.Sealed.{opened-filled}
use Rattle.records.proofs.keys.Keys.open_record.Goals as goal

pub returns : goal.returns
returns c =
    let open-front = c.open_front in
    let args = c.args in
    let r = args.r.bytes.now in
    let valid = valid-record r args.r.valid in
    let all : open-front.result ≡ data_size_of r = omega (arith, open-front.ensures.value) in
    opened-filled args.self.now.device.now.key args.self.now.name.now r valid 480 _ open-front.result all open-front.ensures.output_after
