-- Clauses, rows and unfoldings without constants and loose indices.
use Rattle.std.specs.Prelude.{ℕ, Bool, ◌&&◌, length}
use Rattle.std.specs.List.{list_all}
use Rattle.mz_core.specs.Closed.{term_under, literal_under, type_under, statement_under, loci_closed}
use Rattle.mz_ground.specs.declared.trigger.Trigger.{Trigger}
use Rattle.mz_ground.specs.declared.trigger.Trigger.TheVariants.{Term, Atom}
use Rattle.mz_ground.specs.declared.clause.Clause.{Clause}
use Rattle.mz_environment.specs.declared.rows.Row.{Row}
use Rattle.mz_environment.specs.declared.unfoldings.Unfolding.{Unfolding}

abbrev pub trigger_under : ℕ → Trigger → Bool
trigger_under n (Term t) = term_under n t
trigger_under n (Atom s ts) = list_all (term_under n) ts

-- no constant, and each index is one of the clause's variables
abbrev pub clause_closed : Clause → Bool
clause_closed c =
    trigger_under c.variables c.trigger && list_all (literal_under c.variables) c.premises && literal_under c.variables c.conclusion

-- the arguments and the type stand under the loci
abbrev pub row_closed : Row → Bool
row_closed r = loci_closed r.loci && list_all (term_under (length r.loci)) r.args && type_under (length r.loci) r.ty

-- the head and the definiens stand under the loci
abbrev pub unfolding_closed : Unfolding → Bool
unfolding_closed u =
    loci_closed u.loci && trigger_under (length u.loci) u.head && statement_under (length u.loci) u.definiens
