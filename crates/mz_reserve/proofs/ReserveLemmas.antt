-- What the code of reservations tells.
use Rattle.std.proofs.Common.{◌≡◌, ℕ, suc, ◌+◌, ◌<◌, List, [], ◌∷◌, ◌++◌, map, drop, length, get_or, append_assoc, append-nil, arith, refl, sym, ap, subst, ◌∙◌}
use Rattle.std.proofs.Math.Seq.{drop-cons, drop-length}
use Rattle.std.specs.Prelude.{Result, Ok, Err}
use Rattle.mz_core.specs.declared.outcome.Left.{Left}
use Rattle.mz_core.specs.declared.soft_type.SoftType.{SoftType}
use Rattle.mz_context.specs.declared.context.Context.{Context}
use Rattle.mz_context.specs.declared.reserved.ReservedVariable.{ReservedVariable}
use Rattle.mz_environment.specs.declared.environment.Environment.{Environment}
use Rattle.mz_names.specs.declared.refusal.Refusal.{Refusal}
use Rattle.mz_resolve.specs.Answers.{OnRead}
use Rattle.mz_resolve.specs.Calls.{TypeRead}
use Rattle.mz_resolve.specs.declared.resolve_fault.ResolveFault.{ResolveFault}
use Rattle.mz_resolve.specs.declared.resolve_fault.ResolveFault.TheVariants.{Refused, Memory}
use Rattle.mz_cited.specs.Cited.{members, tree_of}
use Rattle.mz_tree.specs.declared.chain.Next.{Next}
use Rattle.mz_tree.specs.declared.lists.Separated.{Separated}
use Rattle.mz_tree.specs.declared.word.Comma.{Comma}
use Rattle.mz_tree_heading.specs.declared.patterns.IdentifierTree.{IdentifierTree}
use Rattle.mz_tree_part.specs.declared.reserve.SegmentTree.{SegmentTree}
use Rattle.mz_reserve.specs.Reserve.{reserved_for, reserved_behind, with_reserved, Reserves, no_more, type_refused, reserved, come_to}

-- the first identifier and then the others
map-both_maps : (ty : SoftType) (ws : List (Next Comma IdentifierTree)) → map (reserved_behind ty) ws ≡ map (reserved_for ty) (map tree_of ws)
map-both_maps ty [] = refl
map-both_maps ty (w ∷ ws) = ap (λ xs. reserved_for ty w.tree ∷ xs) (map-both_maps ty ws)

pub pushed : (old one new : List ReservedVariable) (ty : SoftType) (ws : Separated IdentifierTree) → one ≡ old ++ reserved_for ty ws.first ∷ [] → new ≡ one ++ map (reserved_behind ty) ws.more →
    new ≡ old ++ map (reserved_for ty) (members ws)
pushed old one new ty ws e f =
    f ∙ ap (λ xs. one ++ xs) (map-both_maps ty ws.more) ∙ ap (λ xs. xs ++ map (reserved_for ty) (map tree_of ws.more)) e ∙ append_assoc old (reserved_for ty ws.first ∷ []) (map (reserved_for ty) (map tree_of ws.more))

-- further identifiers, one after another
map-from_here : (ty : SoftType) (xs : List (Next Comma IdentifierTree)) (i : ℕ) (x : Next Comma IdentifierTree) → i < length xs → x ≡ get_or xs i x → map (reserved_behind ty) (drop i xs) ≡ reserved_behind ty x ∷ map (reserved_behind ty) (drop (i + 1) xs)
map-from_here ty xs i x lt e =
    let next : suc i ≡ i + 1 = omega arith in
    ap (map (reserved_behind ty)) (drop-cons xs i x lt ∙ (ap (λ y. y ∷ drop (suc i) xs) (sym e) ∙ ap (λ k. x ∷ drop k xs) next))

pub append-told_push : (ty : SoftType) (xs : List (Next Comma IdentifierTree)) (i : ℕ) (x : Next Comma IdentifierTree) (v : ReservedVariable) (out new whole : List ReservedVariable) → i < length xs → x ≡ get_or xs i x → v ≡ reserved_behind ty x → new ≡ out ++ v ∷ [] →
    out ++ map (reserved_behind ty) (drop i xs) ≡ whole → new ++ map (reserved_behind ty) (drop (i + 1) xs) ≡ whole
append-told_push ty xs i x v out new whole lt at is en so =
    let rest = map (reserved_behind ty) (drop (i + 1) xs) in
    ap (λ ys. ys ++ rest) (en ∙ ap (λ w. out ++ w ∷ []) is) ∙ (append_assoc out (reserved_behind ty x ∷ []) rest ∙ (ap (λ ys. out ++ ys) (sym (map-from_here ty xs i x lt at)) ∙ so))

pub told_pushed : (ty : SoftType) (xs : List (Next Comma IdentifierTree)) (i : ℕ) (out whole : List ReservedVariable) → i ≡ length xs → out ++ map (reserved_behind ty) (drop i xs) ≡ whole → out ≡ whole
told_pushed ty xs i out whole e so =
    sym (append-nil out) ∙ (ap (λ ys. out ++ map (reserved_behind ty) ys) (sym (drop-length xs)) ∙ (ap (λ k. out ++ map (reserved_behind ty) (drop k xs)) (sym e) ∙ so))

pub ruleset push_rules = (append-told_push, told_pushed)

-- answers

handed_on : {X Y : Type 0} (P : Result X Refusal → Type 0) (Q : Result Y Refusal → Type 0) (f : ResolveFault) → ((r : Refusal) → P (Err r) → Q (Err r)) → OnRead {X = X} (Err f) P → OnRead {X = Y} (Err f) Q
handed_on P Q (Refused r) k h = k r h
handed_on P Q Memory k h = tt

on_err : {X Y : Type 0} (P : Result X Refusal → Type 0) (Q : Result Y Refusal → Type 0) (x : Result X ResolveFault) (f : ResolveFault) → x ≡ Err f → OnRead x P → ((r : Refusal) → P (Err r) → Q (Err r)) → OnRead {X = Y} (Err f) Q
on_err P Q x f e h k = handed_on P Q f k (subst (λ y. OnRead y P) e h)

on_ok : {X : Type 0} (P : Result X Refusal → Type 0) (x : Result X ResolveFault) (y : X) → x ≡ Ok y → OnRead x P → P (Ok y)
on_ok P x y e h = subst (λ z. OnRead z P) e h

-- one segment

pub told_type_refused : (e : Environment) (c d : Context) (l m : Left) (s : SegmentTree) (x : Result SoftType ResolveFault) (f : ResolveFault) → OnRead x (λ o. TypeRead e c 0 l s.ty o m) → x ≡ Err f →
    OnRead {X = Unit {0}} (Err f) (λ o. Reserves e c l (s ∷ []) (come_to o d) m)
told_type_refused e c d l m s x f h is =
    on_err (λ o. TypeRead e c 0 l s.ty o m) (λ o. Reserves e c l (s ∷ []) (come_to o d) m) x f is h (λ r k. type_refused c l m s [] r k)

pub told_segment : (e : Environment) (c between d : Context) (l m : Left) (s : SegmentTree) (x : Result SoftType ResolveFault) (ty : SoftType) → OnRead x (λ o. TypeRead e c 0 l s.ty o m) → x ≡ Ok ty →
    between ≡ c → d ≡ with_reserved between ty (members s.identifiers) → Reserves e c l (s ∷ []) (Ok d) m
told_segment e c between d l m s x ty h is same into =
    subst (λ y. Reserves e c l (s ∷ []) (Ok y) m) (sym (into ∙ ap (λ y. with_reserved y ty (members s.identifiers)) same))
    (reserved c l m m s [] ty (Ok (with_reserved c ty (members s.identifiers))) (on_ok (λ o. TypeRead e c 0 l s.ty o m) x ty is h) (no_more (with_reserved c ty (members s.identifiers)) m))

pub ruleset segment_rules = (told_type_refused, told_segment)

-- one segment and then others

behind_one : {e : Environment} {c d : Context} {l m after : Left} {s : SegmentTree} {ss : List SegmentTree} {o : Result Context Refusal} → Reserves e c l (s ∷ []) (Ok d) m → Reserves e d m ss o after → Reserves e c l (s ∷ ss) o after
behind_one {after = after} {ss = ss} {o = o} (reserved c l between _ s _ ty _ h (no_more _ _)) k = reserved c l between after s ss ty o h k

none_refused : {e : Environment} {c : Context} {l m : Left} {r : Refusal} → Reserves e c l [] (Err r) m → ⊥
none_refused h = elim h [ ]

stopped_one : {e : Environment} {c : Context} {l m : Left} {s : SegmentTree} {r : Refusal} (ss : List SegmentTree) → Reserves e c l (s ∷ []) (Err r) m → Reserves e c l (s ∷ ss) (Err r) m
stopped_one ss (type_refused c l m s _ r h) = type_refused c l m s ss r h
stopped_one ss (reserved c l between m s _ ty _ h k) = absurd (none_refused k)

-- what the rest gives, all give
abbrev pub Reserving : Environment → Context → Left → List (Next Comma SegmentTree) → Context → Left → List (Next Comma SegmentTree) → Type 0
Reserving e c l rest d k all = (o : Result Context Refusal) (after : Left) → Reserves e c l (map tree_of rest) o after → Reserves e d k (map tree_of all) o after

pub told_begun : (e : Environment) (c : Context) (l : Left) (all : List (Next Comma SegmentTree)) → Reserving e c l all c l all
told_begun e c l all o after h = h

empty : (ns : List (Next Comma SegmentTree)) → length ns ≡ 0 → ns ≡ []
empty [] e = refl
empty (n ∷ ns) e = let no : ⊥ = cc in absurd no

pub told_end : (e : Environment) (c d : Context) (l k : Left) (rest all : List (Next Comma SegmentTree)) → length rest ≡ 0 → Reserving e c l rest d k all → Reserves e d k (map tree_of all) (Ok c) l
told_end e c d l k rest all none g = g (Ok c) l (subst (λ ns. Reserves e c l (map tree_of ns) (Ok c) l) (sym (empty rest none)) (no_more c l))

pub told_stop : {X : Type 0} (e : Environment) (c b d : Context) (l m k : Left) (n : Next Comma SegmentTree) (rest others all : List (Next Comma SegmentTree)) (x : Result X ResolveFault) (f : ResolveFault) → rest ≡ n ∷ others →
    OnRead x (λ o. Reserves e c l (n.tree ∷ []) (come_to o b) m) → x ≡ Err f → Reserving e c l rest d k all → OnRead {X = Unit {0}} (Err f) (λ o. Reserves e d k (map tree_of all) (come_to o b) m)
told_stop e c b d l m k n rest others all x f is h err g =
    on_err (λ o. Reserves e c l (n.tree ∷ []) (come_to o b) m) (λ o. Reserves e d k (map tree_of all) (come_to o b) m) x f err h
    (λ r p. g (Err r) m (subst (λ ns. Reserves e c l (map tree_of ns) (Err r) m) (sym is) (stopped_one (map tree_of others) p)))

pub told_turn : {X : Type 0} (e : Environment) (c b d : Context) (l m k : Left) (n : Next Comma SegmentTree) (rest others all : List (Next Comma SegmentTree)) (x : Result X ResolveFault) (y : X) → rest ≡ n ∷ others →
    OnRead x (λ o. Reserves e c l (n.tree ∷ []) (come_to o b) m) → x ≡ Ok y → Reserving e c l rest d k all → Reserving e b m others d k all
told_turn e c b d l m k n rest others all x y is h ok g o after r =
    g o after (subst (λ ns. Reserves e c l (map tree_of ns) o after) (sym is) (behind_one (on_ok (λ o. Reserves e c l (n.tree ∷ []) (come_to o b) m) x y ok h) r))

pub ruleset further_rules = (told_begun, told_end, told_stop, told_turn)

-- the first segment and then the others

pub told_first_refused : {X : Type 0} (e : Environment) (c b : Context) (l m : Left) (ss : Separated SegmentTree) (x : Result X ResolveFault) (f : ResolveFault) → OnRead x (λ o. Reserves e c l (ss.first ∷ []) (come_to o b) m) → x ≡ Err f →
    OnRead {X = Unit {0}} (Err f) (λ o. Reserves e c l (members ss) (come_to o b) m)
told_first_refused e c b l m ss x f h err =
    on_err (λ o. Reserves e c l (ss.first ∷ []) (come_to o b) m) (λ o. Reserves e c l (members ss) (come_to o b) m) x f err h (λ r p. stopped_one (map tree_of ss.more) p)

pub told_joined : {X Y : Type 0} (e : Environment) (c b d : Context) (l m after : Left) (ss : Separated SegmentTree) (x : Result X ResolveFault) (y : X) (z : Result Y ResolveFault) → OnRead x (λ o. Reserves e c l (ss.first ∷ []) (come_to o b) m) → x ≡ Ok y →
    OnRead z (λ o. Reserves e b m (map tree_of ss.more) (come_to o d) after) → OnRead z (λ o. Reserves e c l (members ss) (come_to o d) after)
told_joined e c b d l m after ss x y (Ok z) h ok k = behind_one (on_ok (λ o. Reserves e c l (ss.first ∷ []) (come_to o b) m) x y ok h) k
told_joined e c b d l m after ss x y (Err (Refused r)) h ok k = behind_one (on_ok (λ o. Reserves e c l (ss.first ∷ []) (come_to o b) m) x y ok h) k
told_joined e c b d l m after ss x y (Err Memory) h ok k = tt

pub ruleset joined_rules = (told_first_refused, told_joined)
