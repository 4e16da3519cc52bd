-- What a listener is notified of.
use Rattle.std.specs.Prelude.{Bool, true, false, List, []}
use Rattle.moka_parts.specs.declared.notification.RemovalCause.{RemovalCause}

-- a notice: key, value and cause
abbrev pub Notice : Type 0 → Type 0 → Type 0
Notice K V = K × V × RemovalCause

-- what a listener is notified of, if one is set
abbrev pub when_listening : {N : Type 0} → Bool → List N → List N
when_listening true notices = notices
when_listening false notices = []
