-- Terms and adjectives that were read with so many loci, the constants from `least` on, as they stand under them: each locus is an index there,
-- the last one the innermost.
use Rattle.std.specs.Prelude.{ℕ, zero, suc, ◌+◌, List, map, Option, Some, None}
use Rattle.mz_logic.specs.Abstraction.{term_over}
use Rattle.mz_logic.specs.Term.{Term}
use Rattle.mz_core.specs.declared.adjective.Adjective.{Adjective}
use Rattle.mz_core.specs.declared.soft_type.SoftType.{SoftType}
use Rattle.mz_loci.specs.Loci.{type_over_loci}

abbrev pub term_over_loci : ℕ → ℕ → Term → Term
term_over_loci least zero t = t
term_over_loci least (suc k) t = term_over (least + k) 0 (term_over_loci least k t)

abbrev pub adjective_over_loci : ℕ → ℕ → Adjective → Adjective
adjective_over_loci least count a = record { positive = a.positive; sym = a.sym; args = map (term_over_loci least count) a.args }

abbrev pub adjectives_over_loci : ℕ → ℕ → List Adjective → List Adjective
adjectives_over_loci least count xs = map (adjective_over_loci least count) xs

abbrev pub type_if_any_over_loci : ℕ → ℕ → Option SoftType → Option SoftType
type_if_any_over_loci least count None = None
type_if_any_over_loci least count (Some ty) = Some (type_over_loci least count ty)
