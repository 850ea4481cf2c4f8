-- What may come next in an environment part, as the code keeps it.
use Rattle.std.specs.Prelude.{◌≡◌, Bool, true, false, ◌&&◌, if◌then◌else◌, List, Option, Some, None}
use Rattle.mz_base.specs.declared.place.Place.{Place}
use Rattle.mz_base.specs.declared.token.Token.{Token}
use Rattle.mz_lex.specs.declared.head.State.{State}
use Rattle.mz_lex.specs.declared.head.State.TheVariants.{AtEnviron, AtDirective, AtName, AtSeparator, AtEnd}
use Rattle.mz_lex.specs.declared.head_token.HeadToken.{HeadToken}
use Rattle.mz_lex.specs.declared.head_token.HeadToken.TheVariants.{Environ, Begin, Directive, Later, Name, Comma, Semicolon}
use Rattle.mz_lex.specs.declared.head_fault.HeadFault.{HeadFault}
use Rattle.mz_lex.specs.declared.head_fault.HeadFault.TheVariants.{Unexpected, EndsEarly, Profile2, Memory}
use Rattle.mz_lex.specs.Head.{IsUnexpected, IsLater, BreaksOff}

abbrev pub after_directives : HeadToken → Option State
after_directives (Directive kind) = Some AtName
after_directives Begin = Some AtEnd
after_directives _ = None

abbrev pub after_name : HeadToken → Option State
after_name Comma = Some AtName
after_name Semicolon = Some AtDirective
after_name _ = None

abbrev pub after_comma : HeadToken → Option State
after_comma Name = Some AtSeparator
after_comma _ = None

abbrev pub after_nothing : HeadToken → Option State
after_nothing Environ = Some AtDirective
after_nothing _ = None

-- what may come behind a token, where that may come
abbrev pub next_of : State → HeadToken → Option State
next_of AtEnviron head_token = after_nothing head_token
next_of AtDirective head_token = after_directives head_token
next_of AtName head_token = after_comma head_token
next_of AtSeparator head_token = after_name head_token
next_of AtEnd head_token = None

abbrev pub is_at_directive : State → Bool
is_at_directive AtDirective = true
is_at_directive _ = false

abbrev pub is_later : HeadToken → Bool
is_later Later = true
is_later _ = false

-- the refusal of a token
abbrev pub fault_at : State → HeadToken → Place → HeadFault
fault_at state head_token place = if is_at_directive state && is_later head_token then Profile2 place else Unexpected place

-- the tokens are refused with this fault
abbrev pub AreRefused : List Token → Place → HeadFault → Type 0
AreRefused ts end (Unexpected p) = IsUnexpected ts p
AreRefused ts end (Profile2 p) = IsLater ts p
AreRefused ts end (EndsEarly p) = BreaksOff ts × (p ≡ end)
AreRefused ts end (Memory _) = Unit {0}
AreRefused ts end _ = ⊥
