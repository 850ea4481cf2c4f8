-- How statements are stored.
use Rattle.std.specs.Prelude.{◌≡◌, ℕ, suc, ◌+◌, List, refl}
use Rattle.std.proofs.Common.{ap, ◌∙◌}
use Rattle.std.specs.Coded.{Coded, code_by}
use base.Stored.{Gv, gnil, gnum, gcons}
use denote.Struct.Codes.{itself}
use Rattle.mz_logic.specs.declared.sym.Sym.{Sym}
use Rattle.mz_logic.specs.SymStorage.{sym_gv, gv_sym, gv_sym-sym_gv}
use Rattle.mz_logic.specs.Term.{Term, terms_of, list_of}
use Rattle.mz_logic.specs.TermStorage.{list_of-terms_of, term_gv, terms_gv, gv_term, gv_terms, gv_term-term_gv, gv_terms-terms_gv}
use Rattle.mz_core.specs.declared.soft_type.SoftType.{SoftType}
use Rattle.mz_core.specs.SoftTypeStorage.{type_gv, gv_type, gv_type-type_gv}
use Rattle.mz_core.specs.Statement.{Statement, Truth, Eq, Atom, Not, And, For}

-- how many nodes a statement has above its terms and types
abbrev pub statement_size : Statement → ℕ
statement_size Truth = 1
statement_size (Eq t u) = 1
statement_size (Atom s ts) = 1
statement_size (Not s) = suc (statement_size s)
statement_size (And s t) = suc (statement_size s + statement_size t)
statement_size (For ty s) = suc (statement_size s)

-- a statement is stored as a tree of numbers
abbrev pub statement_gv : Statement → Gv
statement_gv Truth = gnil
statement_gv (Eq t u) = gcons (gnum 1) (gcons (term_gv t) (term_gv u))
statement_gv (Atom s ts) = gcons (gcons gnil (sym_gv s)) (terms_gv (terms_of ts))
statement_gv (Not s) = gcons (gcons (gnum 1) gnil) (statement_gv s)
statement_gv (And s t) = gcons (gcons (gcons gnil gnil) (statement_gv s)) (statement_gv t)
statement_gv (For ty s) = gcons (gcons (gcons gnil (gnum 1)) (type_gv ty)) (statement_gv s)

abbrev eq_at : Gv → Statement
eq_at gnil = Truth
eq_at (gnum n) = Truth
eq_at (gcons t u) = Eq (gv_term t) (gv_term u)

abbrev pub gv_statement : Gv → Statement
gv_statement gnil = Truth
gv_statement (gnum n) = Truth
gv_statement (gcons gnil s) = Truth
gv_statement (gcons (gnum k) p) = eq_at p
gv_statement (gcons (gcons gnil s) ts) = Atom (gv_sym s) (list_of (gv_terms ts))
gv_statement (gcons (gcons (gnum k) n) s) = Not (gv_statement s)
gv_statement (gcons (gcons (gcons h gnil) s) t) = And (gv_statement s) (gv_statement t)
gv_statement (gcons (gcons (gcons h (gnum k)) ty) s) = For (gv_type ty) (gv_statement s)
gv_statement (gcons (gcons (gcons h (gcons k n)) s) t) = Truth

pub gv_statement-statement_gv : (s : Statement) → gv_statement (statement_gv s) ≡ s
gv_statement-statement_gv Truth = refl
gv_statement-statement_gv (Eq t u) = λ i. Eq (gv_term-term_gv t i) (gv_term-term_gv u i)
gv_statement-statement_gv (Atom s ts) = λ i. Atom (gv_sym-sym_gv s i) ((ap list_of (gv_terms-terms_gv (terms_of ts)) ∙ list_of-terms_of ts) i)
gv_statement-statement_gv (Not s) = λ i. Not (gv_statement-statement_gv s i)
gv_statement-statement_gv (And s t) = λ i. And (gv_statement-statement_gv s i) (gv_statement-statement_gv t i)
gv_statement-statement_gv (For ty s) = λ i. For (gv_type-type_gv ty i) (gv_statement-statement_gv s i)

abbrev pub statement_code : Coded Statement
statement_code = code_by Gv itself statement_gv gv_statement gv_statement-statement_gv
