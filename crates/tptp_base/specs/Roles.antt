-- The role of type lines, which declare a sort or a symbol.
use Rattle.std.specs.Prelude.{Bool, true, false}
use Rattle.tptp_base.specs.declared.item.Role.{Role}
use Rattle.tptp_base.specs.declared.item.Role.TheVariants.{Typing}

abbrev pub is_typing : Role → Bool
is_typing Typing = true
is_typing other = false
