-- Places put behind others.
use Rattle.std.proofs.Common.{◌≡◌, ℕ, true, false, Bool, List, [], ◌∷◌, ◌++◌, map, length, append_assoc, append-nil, refl, sym, ap, ◌∙◌, Option, Some, None}
use Rattle.mz_context.specs.declared.constants.Constant.{Constant}
use Rattle.mz_cited.specs.Cited.{members, tree_of}
use Rattle.mz_loci.specs.Loci.{locus_named}
use Rattle.mz_tree.specs.declared.chain.Next.{Next}
use Rattle.mz_tree.specs.declared.lists.Separated.{Separated}
use Rattle.mz_tree.specs.declared.word.Comma.{Comma}
use Rattle.mz_tree_heading.specs.declared.patterns.IdentifierTree.{IdentifierTree}
use Rattle.mz_patterns.specs.Patterns.{behind, place_behind, loci_named, ArePut, alone}

abbrev Places : Type 0
Places = Option (List ℕ)

abbrev some_of : List ℕ → Places
some_of ns = Some ns

some-inj : (ns ms : List ℕ) → some_of ns ≡ some_of ms → ns ≡ ms
some-inj ns ms e = cc

none-some : (ns : List ℕ) → None ≡ some_of ns → ⊥
none-some ns e = cc

-- one place

pub told_named : (o : Option ℕ) (n : ℕ) (old new : List ℕ) → o ≡ Some n → new ≡ old ++ n ∷ [] → behind old (alone o) ≡ Some new
told_named o n old new e h = ap (λ p. behind old (alone p)) e ∙ ap some_of (sym h)

pub told_unnamed : (o : Option ℕ) → o ≡ None → alone o ≡ None
told_unnamed o e = ap alone e

pub ruleset one_rules = (told_named, told_unnamed)

-- further places

put_one : (o : Option ℕ) (p : Places) (old one : List ℕ) → behind old (alone o) ≡ Some one → behind one p ≡ behind old (place_behind o p)
put_one None p old one e = absurd (none-some one e)
put_one (Some n) None old one e = refl
put_one (Some n) (Some ms) old one e = ap (λ ns. some_of (ns ++ ms)) (sym (some-inj (old ++ n ∷ []) one e)) ∙ ap some_of (append_assoc old (n ∷ []) ms)

none_put : (o : Option ℕ) (p : Places) → alone o ≡ None → place_behind o p ≡ None
none_put None p e = refl
none_put (Some n) p e = absurd (none-some (n ∷ []) (sym e))

none_behind : (ns : List ℕ) (p : Places) → behind ns p ≡ None → p ≡ None
none_behind ns None e = refl
none_behind ns (Some ms) e = absurd (none-some (ns ++ ms) (sym e))

empty : {X : Type 0} (ps : List X) → length ps ≡ 0 → ps ≡ []
empty [] e = refl
empty (p ∷ ps) e = let no : ⊥ = cc in absurd no

abbrev further : List (Option Constant) → List (Next Comma IdentifierTree) → Places
further ks ws = loci_named ks (map tree_of ws)

-- the rest behind what was put so far are all behind what was there
abbrev pub Putting : List (Option Constant) → List (Next Comma IdentifierTree) → List ℕ → List (Next Comma IdentifierTree) → List ℕ → Type 0
Putting ks rest now ws old = behind now (further ks rest) ≡ behind old (further ks ws)

pub put_turn : (ks : List (Option Constant)) (rest others ws : List (Next Comma IdentifierTree)) (w : Next Comma IdentifierTree) (old now one : List ℕ) → rest ≡ w ∷ others →
    ArePut (alone (locus_named ks w.tree.name.spelling)) true now one → Putting ks rest now ws old → Putting ks others one ws old
put_turn ks rest others ws w old now one is h so = put_one (locus_named ks w.tree.name.spelling) (further ks others) now one h ∙ ap (λ xs. behind now (further ks xs)) (sym is) ∙ so

pub put_stop : (ks : List (Option Constant)) (rest others ws : List (Next Comma IdentifierTree)) (w : Next Comma IdentifierTree) (old now one new : List ℕ) → rest ≡ w ∷ others →
    ArePut (alone (locus_named ks w.tree.name.spelling)) false now one → Putting ks rest now ws old → ArePut (further ks ws) false old new
put_stop ks rest others ws w old now one new is h so =
    none_behind old (further ks ws) (sym so ∙ ap (λ xs. behind now (further ks xs)) is ∙ ap (behind now) (none_put (locus_named ks w.tree.name.spelling) (further ks others) h))

pub put_end : (ks : List (Option Constant)) (rest ws : List (Next Comma IdentifierTree)) (old now : List ℕ) → length rest ≡ 0 → Putting ks rest now ws old → ArePut (further ks ws) true old now
put_end ks rest ws old now none so = sym so ∙ ap (λ xs. behind now (further ks xs)) (empty rest none) ∙ ap some_of (append-nil now)

pub ruleset further_rules = (put_turn, put_stop, put_end)

-- the first one and then the others

both_none : (o : Option ℕ) (p : Places) → p ≡ None → place_behind o p ≡ None
both_none None p e = refl
both_none (Some n) p e = ap (λ q. behind (n ∷ []) q) e

pub told_members : (ks : List (Option Constant)) (ws : Separated IdentifierTree) (b : Bool) (old one new : List ℕ) → ArePut (alone (locus_named ks ws.first.name.spelling)) true old one → ArePut (further ks ws.more) b one new →
    ArePut (loci_named ks (members ws)) b old new
told_members ks ws true old one new h k = sym (put_one (locus_named ks ws.first.name.spelling) (further ks ws.more) old one h) ∙ k
told_members ks ws false old one new h k = both_none (locus_named ks ws.first.name.spelling) (further ks ws.more) k

pub told_first : (ks : List (Option Constant)) (ws : Separated IdentifierTree) (old one new : List ℕ) → ArePut (alone (locus_named ks ws.first.name.spelling)) false old one → ArePut (loci_named ks (members ws)) false old new
told_first ks ws old one new h = none_put (locus_named ks ws.first.name.spelling) (further ks ws.more) h

pub ruleset member_rules = (told_members, told_first)

-- a side

pub put_nothing : (ks : List (Option Constant)) (old : List ℕ) → ArePut (loci_named ks []) true old old
put_nothing ks old = ap some_of (append-nil old)

at_start : (p : Places) (new : List ℕ) → behind [] p ≡ Some new → p ≡ Some new
at_start None new e = e
at_start (Some ms) new e = e

pub told_side : (p : Places) (b : Bool) (new : List ℕ) → b ≡ true → ArePut p b [] new → Some new ≡ p
told_side p true new e h = sym (at_start p new h)
told_side p false new e h = let no : ⊥ = cc in absurd no

pub told_no_side : (p : Places) (b : Bool) (new : List ℕ) → b ≡ false → ArePut p b [] new → None ≡ p
told_no_side p false new e h = sym h
told_no_side p true new e h = let no : ⊥ = cc in absurd no

pub ruleset side_rules = (told_side, told_no_side)
