-- Contexts of an article's own level: at the start, what is read there, and how they change.
use Rattle.std.proofs.Common.{◌≡◌, inl, inr, ℕ, true, List, ◌++◌, map, refl, sym, ap, subst, Result, Ok, Err}
use Rattle.std.specs.Prelude.{Contains}
use Rattle.std.proofs.lemmas.List.Elements.{Contains-append_cases}
use Rattle.mz_core.specs.Closed.{statement_under}
use Rattle.mz_core.specs.declared.outcome.Left.{Left}
use Rattle.mz_core.specs.declared.soft_type.SoftType.{SoftType}
use Rattle.mz_context.specs.Context.{next}
use Rattle.mz_context.specs.declared.context.Context.{Context}
use Rattle.mz_context.specs.declared.reserved.ReservedVariable.{ReservedVariable}
use Rattle.mz_environment.specs.declared.environment.Environment.{Environment}
use Rattle.mz_closed_laws.specs.ClosedEnvironment.{IsClosedEnvironment}
use Rattle.mz_ground.proofs.ListLemmas.{contains_map}
use Rattle.mz_names.specs.declared.refusal.Refusal.{Refusal}
use Rattle.mz_cited.specs.Cited.{members}
use Rattle.mz_tree_heading.specs.declared.patterns.IdentifierTree.{IdentifierTree}
use Rattle.mz_tree_part.specs.declared.reserve.SegmentTree.{SegmentTree}
use Rattle.mz_reserve.specs.Reserve as rule
use Rattle.mz_reserve.specs.Reserve.{reserved_for, with_reserved, Reserves}
use Rattle.mz_standing.specs.Standing.{no_context}
use Rattle.mz_term_laws.specs.Usable.{type_usable}
use Rattle.mz_term_laws.specs.Whole.{IsWhole}
use Rattle.mz_term_laws.proofs.ChangeProofs.{empty_law}
use Rattle.mz_whole_laws.specs.WholeLaws.{ReadsWell}
use Rattle.mz_whole_laws.proofs.WholeProofs.{WhereOk}
use Rattle.mz_whole_laws.proofs.StandingLemmas.{type_usable_in}
use Rattle.mz_whole_laws.proofs.WholeProofs.{reads_well_law}
use Rattle.mz_level_laws.specs.Level.{IsLevel, StartLaw, ReadingLaw, ReservationLaw}

pub start_law : StartLaw
start_law article = record {
  is_whole = empty_law 0 (no_context article) (record { constants = refl; reserved = refl; labelled = refl; previous = refl; functors = refl; predicates = refl; letters = refl; thesis = refl; it_is = refl; arguments = refl; subject = refl });
  no_it = refl;
  no_arguments = refl;
  no_subject = refl;
}

pub reading_law : ReadingLaw
reading_law e closed_e =
    let reads : ReadsWell e (IsWhole 0) = reads_well_law e closed_e in
    record {
      term = λ c level. reads.term c level.is_whole;
      type_of = λ c level. reads.type_of c level.is_whole;
      sentence = λ c level. reads.sentence c level.is_whole;
      reserved = λ c level. reads.reserved c level.is_whole;
      chain = λ c level. reads.chain c level.is_whole;
      radices = λ c level. reads.radices c level.is_whole;
      thesis = λ c level. reads.thesis c level.is_whole;
      with_one = λ c level k w u. record { is_whole = reads.with_one c level.is_whole k w u; no_it = level.no_it; no_arguments = level.no_arguments; no_subject = level.no_subject };
      with_some = λ c level ps all. record { is_whole = reads.with_some c level.is_whole ps all; no_it = level.no_it; no_arguments = level.no_arguments; no_subject = level.no_subject };
      posed = λ c level s w. record { is_whole = reads.posed c level.is_whole s w; no_it = level.no_it; no_arguments = level.no_arguments; no_subject = level.no_subject };
      with_functor_read = λ c level l m t f h. record { is_whole = reads.with_functor_read c level.is_whole l m t f h; no_it = level.no_it; no_arguments = level.no_arguments; no_subject = level.no_subject };
      with_predicate_read = λ c level l m t p h. record { is_whole = reads.with_predicate_read c level.is_whole l m t p h; no_it = level.no_it; no_arguments = level.no_arguments; no_subject = level.no_subject };
      unlinked = λ c level. record { is_whole = reads.unlinked c level.is_whole; no_it = level.no_it; no_arguments = level.no_arguments; no_subject = level.no_subject };
    }

-- a segment's identifiers
reserved_whole : (c : Context) (ty : SoftType) (ws : List IdentifierTree) → IsWhole 0 c → type_usable 0 c ty ≡ true → IsWhole 0 (with_reserved c ty ws)
reserved_whole c ty ws w h = record {
  constants = w.constants;
  reserved = λ v i f. elim (Contains-append_cases c.reserved (map (reserved_for ty) ws) v i) [
    | inl old ↦ w.reserved v old f
    | inr new ↦
        let from : (x : IdentifierTree) × Contains ws x × (reserved_for ty x ≡ v) = contains_map (reserved_for ty) ws v new in
        subst (λ (u : ReservedVariable). type_usable 0 c u.ty ≡ true) from.2 h
  ];
  labelled = w.labelled;
  previous = w.previous;
  functors = w.functors;
  predicates = w.predicates;
  letters = w.letters;
  thesis = w.thesis;
  it_is = w.it_is;
  arguments = w.arguments;
  subject = w.subject;
}

reserves_level : {e : Environment} {c : Context} {left after : Left} {ss : List SegmentTree} {o : Result Context Refusal} → IsClosedEnvironment e → IsLevel c → Reserves e c left ss o after → WhereOk o IsLevel
reserves_level closed_e level (rule.no_more c left) = level
reserves_level closed_e level (rule.type_refused c left after s ss r h) = tt
reserves_level {e} closed_e level (rule.reserved c left between after s ss ty o h k) =
    let reads : ReadsWell e (IsWhole 0) = reads_well_law e closed_e in
    let usable : type_usable 0 c ty ≡ true = type_usable_in c ty (reads.type_of c level.is_whole left between s.ty ty h) in
    reserves_level closed_e (record { is_whole = reserved_whole c ty (members s.identifiers) level.is_whole usable; no_it = level.no_it; no_arguments = level.no_arguments; no_subject = level.no_subject }) k

pub reservation_law : ReservationLaw
reservation_law e c d left after ss closed_e level h = reserves_level closed_e level h
