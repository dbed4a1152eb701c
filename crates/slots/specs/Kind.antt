-- Which of the two areas a buffer is: the card's or the chip's.
use Rattle.slots.specs.declared.AreaKind.{AreaKind}
use Rattle.slots.specs.declared.AreaKind.TheVariants.{Kv, Rbp}
use Rattle.spec.specs.Area.{Format, kv_format, rbp_format}

abbrev pub format_of : AreaKind → Format
format_of Kv = kv_format
format_of Rbp = rbp_format
