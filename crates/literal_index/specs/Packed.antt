-- Literals in little room.
use Rattle.std.specs.Prelude.{Option, None, Some}
use Rattle.pool_text.specs.declared.language.Lit.{Lit}
use Rattle.literal_index.specs.declared.literal.Packed.{Packed}

-- the literal that is packed, if there is one
abbrev pub unpacked : Packed → Option Lit
unpacked Packed.Open = None
unpacked Packed.Undefined = Some Lit.Undefined
unpacked Packed.Error = Some Lit.Error
unpacked (Packed.Boolean b) = Some (Lit.Boolean b)
unpacked (Packed.Integer n) = Some (Lit.Integer n)
unpacked (Packed.Decimal m) = Some (Lit.Decimal m)
unpacked (Packed.Boxed lit) = Some lit.value
