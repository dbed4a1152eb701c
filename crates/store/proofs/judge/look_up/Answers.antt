-- `store::judge::look_up`: both searches, and what stands at the slots.
use mathlib.Core.Path.{sym, ap, ◌∙◌}
use Rattle.spec.specs.Area.{kv_format, rbp_format}
use Rattle.spec.proofs.TagComparison.{kept_length}
use Rattle.store.specs.Parts.{option_of, given}
use Rattle.store.proofs.Given.{payload_known}
use Rattle.store.proofs.Judged.{readable}
use Rattle.store.proofs.judge.look_up.Goals as goal

pub payload-requires : goal.payload-requires
payload-requires c =
    let found = c.find-found in
    readable kv_format c.args.kv.now c.args.name.now found.result found.ensures c.requires.kv_sized c.requires.kv_intact

pub payload-requires-2 : goal.payload-requires-2
payload-requires-2 c =
    let entry = c.find-entry in
    readable rbp_format c.args.rbp.now c.args.name.now entry.result entry.ensures c.requires.rbp_sized c.requires.rbp_intact

pub owned_tag-requires : goal.owned_tag-requires
owned_tag-requires c =
    let entry = c.find-entry in
    let rbp = c.args.rbp.now in
    let name = c.args.name.now in
    let known = ap option_of c.payload-2.ensures ∙ payload_known rbp_format rbp name entry.result entry.ensures c.requires.rbp_intact in
    λ t e. kept_length name t.now rbp (sym known ∙ ap given e)

pub returns-clause-held : goal.returns-clause-held
returns-clause-held c =
    let found = c.find-found in
    let entry = c.find-entry in
    let name = c.args.name.now in
    let stored = ap option_of c.payload.ensures ∙ payload_known kv_format c.args.kv.now name found.result found.ensures c.requires.kv_intact in
    let tag = ap option_of (c.owned_tag.ensures ∙ c.payload-2.ensures)
    ∙ payload_known rbp_format c.args.rbp.now name entry.result entry.ensures c.requires.rbp_intact in
    λ i. record { stored = stored i; tag = tag i }
