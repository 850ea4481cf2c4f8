-- What the entries of an environment are found by.
use Rattle.std.specs.Prelude.{ℕ, Bool, true, false, ◌&&◌, nat_eq, List, Option, Some, None}
use Rattle.std.specs.Str.{bytes_eq}
use Rattle.mz_logic.specs.Sym.{kind_number, same_sym}
use Rattle.mz_logic.specs.declared.sym.Sym.{Sym}
use Rattle.mz_logic.specs.Term as term
use Rattle.mz_ground.specs.declared.trigger.Trigger.{Trigger}
use Rattle.mz_ground.specs.declared.trigger.Trigger.TheVariants as trigger
use Rattle.mz_core.specs.declared.notation.Notation.{Notation}
use Rattle.mz_core.specs.declared.registration.ExistentialRegistration.{ExistentialRegistration}
use Rattle.mz_core.specs.declared.structure.Structure.{Structure}
use Rattle.mz_environment.specs.declared.rows.Row.{Row}
use Rattle.mz_environment.specs.declared.cited.CitedStatement.{CitedStatement}
use Rattle.mz_environment.specs.declared.cited.CitedScheme.{CitedScheme}
use Rattle.mz_environment.specs.declared.unfoldings.Unfolding.{Unfolding}

-- the parts of a symbol
abbrev pub sym_key : Sym → (ℕ × ℕ) × ℕ
sym_key s = ((s.article, kind_number s.kind), s.number)

-- a symbol has these parts
abbrev pub has_key : (ℕ × ℕ) × ℕ → Sym → Bool
has_key k s = nat_eq s.article k.0.0 && nat_eq (kind_number s.kind) k.0.1 && nat_eq s.number k.1

-- the rows of a symbol
abbrev pub row_has : Sym → Row → Bool
row_has s x = same_sym x.sym s

-- the structures with the symbol
abbrev pub structure_has : Sym → Structure → Bool
structure_has s x = same_sym x.sym s

-- the registrations of a type with the radix's symbol
abbrev pub registration_has : Sym → ExistentialRegistration → Bool
registration_has s x = same_sym x.ty.radix.sym s

-- the notations with the spelling
abbrev pub is_spelled : List ℕ → Notation → Bool
is_spelled bytes x = bytes_eq x.pattern.symbol bytes

-- the symbol of a head: of the application or of the atom
abbrev pub head_symbol : Trigger → Option Sym
head_symbol (trigger.Term (term.Bound index)) = None
head_symbol (trigger.Term (term.Const number)) = None
head_symbol (trigger.Term (term.App s ts)) = Some s
head_symbol (trigger.Atom s ts) = Some s

-- a head has the key: both have no symbol, or the symbol has the parts
abbrev pub head_has : Option ((ℕ × ℕ) × ℕ) → Option Sym → Bool
head_has None None = true
head_has None (Some s) = false
head_has (Some k) None = false
head_has (Some k) (Some s) = has_key k s

-- the unfoldings whose head has the symbol
abbrev pub has_head : Sym → Unfolding → Bool
has_head s u = head_has (Some (sym_key s)) (head_symbol u.head)

-- the statements and the schemes of an article
abbrev pub of_article : ℕ → CitedStatement → Bool
of_article n x = nat_eq x.article n

abbrev pub scheme_of_article : ℕ → CitedScheme → Bool
scheme_of_article n x = nat_eq x.article n
