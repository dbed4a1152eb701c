-- Every statement of `specs/Laws`, with its proof.
use Rattle.keys.specs.Laws.{FileLayout, ParseExact, ReaderExact, StepsExact, KeyNames}
use Rattle.keys.specs.Laws.{KeyCallsWell, KeyRefusals, FormatGives, LoadExact, SaveExact, SaveLoads}
use Rattle.keys.proofs.FileLaws.{file-layout, parse_exact, reader-exact}
use Rattle.keys.proofs.Taken.{steps-exact}
use Rattle.keys.proofs.Names.{key-names}
use Rattle.keys.proofs.CallLaws.{key-calls-well, key-refusals, format_gives, load-exact, save_exact, save_loads}

pub layout : FileLayout
layout = file-layout

pub parsing : ParseExact
parsing = parse_exact

pub reading : ReaderExact
reading = reader-exact

pub steps : StepsExact
steps = steps-exact

pub names : KeyNames
names = key-names

pub demand1 : KeyCallsWell
demand1 = key-calls-well

pub refusals : KeyRefusals
refusals = key-refusals

pub formatting : FormatGives
formatting = format_gives

pub loading : LoadExact
loading = load-exact

pub saving : SaveExact
saving = save_exact

pub saved_is_loaded : SaveLoads
saved_is_loaded = save_loads
