-- `script_replay::gather::gather`: up to the newline, as much as there is room for.
use lib.ListN.{length, take}
use Rattle.script_replay.proofs.Gathering.{found-until, part-until, line-ended, line_open, held-copied}
use Rattle.script_replay.proofs.gather.gather.Goals as goal

pub returns-then-end-part : goal.returns-then-end-part
returns-then-end-part c =
    let a = c.args in
    let line = a.line.now in
    let part = a.part.now in
    let e = c.find-end.ensures.place in
    let told = c.copy_fitting-n.ensures in
    let put = held-copied line part _ _ a.len c.min-at.result c.copy_fitting-n.result c.min-at.ensures (part-until part _ e) told.value told.dst_after in
    record { value = line-ended (length line) (take a.len line) part _ _ put.0 (found-until part _ e) c.if-end-part.true; line_after = put.1 }

pub returns : goal.returns
returns c =
    let a = c.args in
    let line = a.line.now in
    let part = a.part.now in
    let e = c.find-end.ensures.place in
    let told = c.copy_fitting-n.ensures in
    let put = held-copied line part _ _ a.len c.min-at.result c.copy_fitting-n.result c.min-at.ensures (part-until part _ e) told.value told.dst_after in
    record { value = line_open (length line) (take a.len line) part _ _ put.0 (found-until part _ e) c.if-end-part.false; line_after = put.1 }
