-- `mix::session::put_session`: the library's bytes.
use mathlib.Core.Path.{ap, ◌∙◌}
use Rattle.buffers.specs.Bytes.{put_at}
use Rattle.mix.proofs.Numbers.{eight-bytes}
use Rattle.mix.proofs.session.put_session.Goals as goal

pub returns : goal.returns
returns c = c.paste.ensures ∙ ap (put_at c.args.b.now 0) (c.to_le_bytes.ensures ∙ eight-bytes c.args.session_id)
