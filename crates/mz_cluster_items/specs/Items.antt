-- What a cluster makes in a block with these loci, the constants from `least` on.
use Rattle.std.specs.Prelude.{ℕ, zero, suc, ◌+◌, Bool, true, false, ◌&&◌, ◌||◌, nat_le, List, length, Option, Some, None}
use Rattle.std.specs.List.{list_all, list_any}
use Rattle.mz_logic.specs.Constants.{occurs}
use Rattle.mz_core.specs.declared.adjective.Adjective.{Adjective}
use Rattle.mz_core.specs.declared.item.Item.{Item}
use Rattle.mz_core.specs.declared.item.Item.TheVariants as item
use Rattle.mz_core.specs.declared.soft_type.SoftType.{SoftType}
use Rattle.mz_core.specs.declared.typed_sequent.TypedSequent.{TypedSequent}
use Rattle.mz_items.specs.Items.{owed_statements}
use Rattle.mz_sizes.specs.Sizes.{statement_keeps}
use Rattle.mz_context.specs.Gather.{occurs_in_adjective, occurs_in_type}
use Rattle.mz_context.specs.declared.constants.Constant.{Constant}
use Rattle.mz_loci.specs.Loci.{type_over_loci, locus_types}
use Rattle.mz_clusters.specs.declared.headings.ReadCluster.{ReadCluster}
use Rattle.mz_clusters.specs.declared.headings.ReadCluster.TheVariants.{Existential, Conditional, Functorial}
use Rattle.mz_cluster_items.specs.OverLoci.{term_over_loci, adjectives_over_loci, type_if_any_over_loci}

-- the constant occurs in the cluster's term, types and adjectives, as they are read
abbrev pub occurs_in_adjectives : ℕ → List Adjective → Bool
occurs_in_adjectives n xs = list_any (occurs_in_adjective n) xs

abbrev pub occurs_in_type_if_any : ℕ → Option SoftType → Bool
occurs_in_type_if_any n None = false
occurs_in_type_if_any n (Some ty) = occurs_in_type n ty

abbrev pub occurs_in_cluster : ℕ → ReadCluster → Bool
occurs_in_cluster n (Existential x) = occurs_in_type n x.ty || occurs_in_adjectives n x.adjectives
occurs_in_cluster n (Conditional x) = occurs_in_type n x.ty || (occurs_in_adjectives n x.from || occurs_in_adjectives n x.to)
occurs_in_cluster n (Functorial x) = occurs n x.term || (occurs_in_type_if_any n x.ty || occurs_in_adjectives n x.adjectives)

-- so do so many loci: a registration has no visible one
abbrev pub all_occur : ℕ → ℕ → ReadCluster → Bool
all_occur least zero x = true
all_occur least (suc k) x = occurs_in_cluster (least + k) x && all_occur least k x

-- the registration
abbrev pub cluster_item : ℕ → List (Option Constant) → ReadCluster → Item
cluster_item least loci (Existential x) =
    item.Existential (record { loci = locus_types least loci; adjectives = adjectives_over_loci least (length loci) x.adjectives; ty = type_over_loci least (length loci) x.ty })
cluster_item least loci (Conditional x) =
    item.Conditional (record { loci = locus_types least loci; from = adjectives_over_loci least (length loci) x.from; to = adjectives_over_loci least (length loci) x.to; ty = type_over_loci least (length loci) x.ty })
cluster_item least loci (Functorial x) =
    item.Functorial (record { loci = locus_types least loci; term = term_over_loci least (length loci) x.term; adjectives = adjectives_over_loci least (length loci) x.adjectives; ty = type_if_any_over_loci least (length loci) x.ty })

-- at most so many members, since each makes what is owed deeper by one
abbrev pub are_few : {X : Type 0} → List X → Bool
are_few xs = nat_le (length xs) 512

abbrev pub has_few : ReadCluster → Bool
has_few (Existential x) = are_few x.adjectives
has_few (Conditional x) = are_few x.from && are_few x.to
has_few (Functorial x) = are_few x.adjectives

-- what it owes keeps the limits on nodes and depth
abbrev pub sequent_keeps : TypedSequent → Bool
sequent_keeps q = statement_keeps q.conclusion

abbrev pub cluster_keeps : ℕ → List (Option Constant) → ReadCluster → Bool
cluster_keeps least loci x = (are_few loci && has_few x) && list_all sequent_keeps (owed_statements (cluster_item least loci x))
