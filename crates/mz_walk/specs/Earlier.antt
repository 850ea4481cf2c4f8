-- The refusal that is told of an iterative equality of which a side isn't read. What stands earlier in the text comes first: that what
-- can be made of the sides in front of it is too large, at the step's first token; then the refusal of a justification in front of it.
use Rattle.std.specs.Prelude.{ℕ, ◌-◌, Bool, true, false, ◌&&◌, ◌||◌, nat_lt, nat_eq, if◌then◌else◌, List, [], ◌∷◌, Option, Some, None, Result, Ok, Err}
use Rattle.mz_base.specs.declared.place.Place.{Place}
use Rattle.mz_context.specs.declared.context.Context.{Context}
use Rattle.mz_environment.specs.declared.environment.Environment.{Environment}
use Rattle.mz_names.specs.declared.refusal.Refusal.{Refusal}
use Rattle.mz_names.specs.declared.refusal.Refusal.TheVariants.{UnknownSymbol, NoNotation, UnknownVariable, Unregistered, UnfitArgument, TooLarge}
use Rattle.mz_given.specs.Given.{cited_in}
use Rattle.mz_given.specs.declared.given.Given.{Given}
use Rattle.mz_tree_proof.specs.Reasoning.{JustData, SimpleJust, ProofJust}
use Rattle.mz_tree_proof.specs.declared.equality_step.EqualityStepTree.{EqualityStepTree}
use Rattle.mz_tree_proof.specs.declared.references.SimpleTree.{SimpleTree}
use Rattle.mz_justified.specs.Justified.{place_of}
use Rattle.mz_justified.specs.declared.proof_fault.ProofRefusal.{ProofRefusal}
use Rattle.mz_justified.specs.declared.proof_fault.ProofRefusal.TheVariants.{StepNoFit, ThesisLeft, UnknownLabel, Resolve, TooManyObligations, NotBuilt}
use Rattle.mz_walk.specs.Compact.{place_behind}

-- the first place stands before the second
abbrev pub is_before : Place → Place → Bool
is_before p q = nat_lt p.line q.line || (nat_eq p.line q.line && nat_lt p.column q.column)

-- where a refusal stands
abbrev pub place_unread : Refusal → Place
place_unread (UnknownSymbol p) = p
place_unread (NoNotation p) = p
place_unread (UnknownVariable p) = p
place_unread (Unregistered p) = p
place_unread (UnfitArgument p) = p
place_unread (TooLarge p) = p

abbrev pub place_refused : ProofRefusal → Place
place_refused (StepNoFit p) = p
place_refused (ThesisLeft p) = p
place_refused (UnknownLabel p) = p
place_refused (Resolve r) = place_unread r
place_refused (TooManyObligations p) = p
place_refused (NotBuilt p) = p

-- why a justification isn't taken, where the article has so many obligations left: it has none, or a reference cites nothing
abbrev pub uncited : Result Given Place → Option ProofRefusal
uncited (Ok g) = None
uncited (Err p) = Some (UnknownLabel p)

abbrev pub ungrounded : Environment → Context → ℕ → Place → SimpleTree → Option ProofRefusal
ungrounded e c n place t = if nat_eq n 0 then Some (TooManyObligations place) else uncited (cited_in e c t)

-- the one refusal, or else the other
abbrev pub else_told : Option ProofRefusal → ProofRefusal → ProofRefusal
else_told None r = r
else_told (Some q) r = q

-- a justification in front of the rest: where its place isn't before that of the refusal, the refusal is told
abbrev pub told_behind : Environment → Context → ℕ → Place → SimpleTree → ProofRefusal → ProofRefusal → ProofRefusal
told_behind e c n place t rest r = if is_before place (place_refused r) then else_told (ungrounded e c n place t) rest else r

-- what is told among the justifications of further sides, one obligation for each, and of all
abbrev pub told_of_sides : Environment → Context → Place → ℕ → List EqualityStepTree → ProofRefusal → ProofRefusal
told_of_sides e c semicolon n [] r = r
told_of_sides e c semicolon n (k ∷ ks) r = told_behind e c n (place_of (place_behind ks semicolon) k.simple) k.simple (told_of_sides e c semicolon (n - 1) ks r) r

abbrev pub told_first : Environment → Context → Place → ℕ → JustData → List EqualityStepTree → ProofRefusal → ProofRefusal
told_first e c semicolon n (SimpleJust t) ks r = told_behind e c n (place_of (place_behind ks semicolon) t) t (told_of_sides e c semicolon (n - 1) ks r) r
told_first e c semicolon n (ProofJust p ds end) ks r = r

-- that the step is too large, at its first token, where this is before the place of the refusal; or else the other
abbrev pub large_or : Place → ProofRefusal → ProofRefusal → ProofRefusal
large_or first r rest = if is_before first (place_refused r) then Resolve (TooLarge first) else rest

-- what is told where the step isn't read, and what can be made of it keeps the limits or doesn't
abbrev pub told_unread : Environment → Context → Place → Place → ℕ → JustData → List EqualityStepTree → Bool → ProofRefusal → ProofRefusal
told_unread e c first semicolon n j ks true r = told_first e c semicolon n j ks r
told_unread e c first semicolon n j ks false r = large_or first r (told_first e c semicolon n j ks r)
