-- The names of the built-in articles.
use Rattle.std.specs.Prelude.{◌≡◌, ℕ, codes, refl}
use Rattle.mz_base.specs.Name.{number_of, text_of}
use Rattle.mz_base.specs.declared.name.Name.{Name, named-type, spelled-type}

pub hidden_named : named-type (number_of (codes "HIDDEN"))
unfolding text_of number_of
hidden_named = refl

pub hidden_spelled : spelled-type (number_of (codes "HIDDEN")) hidden_named
unfolding text_of number_of
hidden_spelled = refl

pub tarski_0_named : named-type (number_of (codes "TARSKI_0"))
unfolding text_of number_of
tarski_0_named = refl

pub tarski_0_spelled : spelled-type (number_of (codes "TARSKI_0")) tarski_0_named
unfolding text_of number_of
tarski_0_spelled = refl

pub tarski_a_named : named-type (number_of (codes "TARSKI_A"))
unfolding text_of number_of
tarski_a_named = refl

pub tarski_a_spelled : spelled-type (number_of (codes "TARSKI_A")) tarski_a_named
unfolding text_of number_of
tarski_a_spelled = refl

abbrev pub hidden_name : Name
hidden_name = record { number = number_of (codes "HIDDEN"); named = hidden_named; spelled = hidden_spelled }

abbrev pub tarski_0_name : Name
tarski_0_name = record { number = number_of (codes "TARSKI_0"); named = tarski_0_named; spelled = tarski_0_spelled }

abbrev pub tarski_a_name : Name
tarski_a_name = record { number = number_of (codes "TARSKI_A"); named = tarski_a_named; spelled = tarski_a_spelled }
