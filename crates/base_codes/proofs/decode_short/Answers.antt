-- `decode_short` meets its contract: what `decode` gave fits 16 bits (`short_fits`), so the cast keeps it.
use mathlib.Core.Path.{◌∙◌}
use mir.Facts.{sfits_widen}
use mir.Syntax.{w16, w32}
use Rattle.base_codes.proofs.Casts.{short_asked, short_same, short_fits, recast, recast_fits}
use Rattle.base_codes.proofs.decode_short.Goals as goal

pub decode-requires : goal.decode-requires
decode-requires c = short_asked c.ranges.low c.requires

pub overflow_cast-result : goal.overflow_cast-result
overflow_cast-result c =
    let f = short_fits c.ranges.low c.requires (short_same c.ranges.low c.requires c.decode.ensures) in
    recast_fits w32 w16 (sfits_widen tt f) f

pub returns : goal.returns
returns c =
    let e = short_same c.ranges.low c.requires c.decode.ensures in
    let f = short_fits c.ranges.low c.requires e in
    recast w32 w16 (sfits_widen tt f) f ∙ e
