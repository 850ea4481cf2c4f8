-- What the code of blocks tells.
use Rattle.std.proofs.Common.{◌≡◌, ◌∙◌, ℕ, Bool, true, false, List, [], ◌∷◌, length, refl, sym, ap, subst, Some}
use Rattle.std.specs.Prelude.{Result, Ok, Err}
use Rattle.mz_base.specs.declared.place.Place.{Place}
use Rattle.mz_core.specs.declared.notation.Meaning.{Meaning}
use Rattle.mz_context.specs.Context.{next}
use Rattle.mz_justified.specs.declared.proof_fault.ProofRefusal.TheVariants.{Resolve}
use Rattle.mz_let.specs.Lets.{Lets}
use Rattle.mz_loci.specs.Loci.{loci_from, behind_loci}
use Rattle.mz_names.specs.declared.refusal.Refusal.{Refusal}
use Rattle.mz_names.specs.declared.refusal.Refusal.TheVariants.{UnknownSymbol}
use Rattle.mz_patterns.specs.declared.visible.Visible.{Visible}
use Rattle.mz_standing.specs.Standing.{with_context}
use Rattle.mz_standing.specs.declared.standing.Standing.{Standing}
use Rattle.mz_taken.specs.Answers.{OnTaken, Brings, Leads, IsBrought}
use Rattle.mz_taken.specs.OneByOne.{OneByOne}
use Rattle.mz_taken.specs.Taken.{Taken, Made, Refused}
use Rattle.mz_taken.proofs.OneByOneProofs.{Reading, told_begun, told_turn, told_stop, told_end}
use Rattle.mz_taken.specs.declared.item_fault.ItemFault.{ItemFault}
use Rattle.mz_taken.specs.declared.item_fault.ItemFault.TheVariants as fault
use Rattle.mz_taken.specs.declared.item_fault.ItemRefusal.TheVariants.{Proof}
use Rattle.mz_tree_heading.specs.declared.patterns.PatternTree.{PatternTree}
use Rattle.mz_tree_part.specs.declared.notation.BlockLetTree.{BlockLetTree}
use Rattle.mz_tree_part.specs.declared.notation.NotationPartTree.{NotationPartTree}
use Rattle.mz_tree_part.specs.declared.notation.NotationPartTree.TheVariants.{Let, Notation}
use Rattle.mz_tree_part.specs.declared.notation.NotationTree.{NotationTree}
use Rattle.mz_tree_part.specs.declared.words.NotationWord.{NotationWord}
use Rattle.mz_notations.specs.Reading.{new_loci, old_loci, PatternReads}
use Rattle.mz_notations.specs.Notes as no
use Rattle.mz_notations.specs.Patterns.{symbol_place}
use Rattle.mz_notations.specs.Notes.{are_alike, notation_of, noted, TakesNotation, NotesPart, ended, NotesBlock}

-- more is known of each outcome
led_more : {X Y : Type 0} (P Q : Taken Y → Type 0) (y : Y) (z : Result X ItemFault) → ((o : Taken Y) → P o → Q o) → OnTaken z (Leads P y) → OnTaken z (Leads Q y)
led_more P Q y (Ok x) k h = k (Made [] y) h
led_more P Q y (Err (fault.Refused r)) k h = k (Refused r) h
led_more P Q y (Err fault.Memory) k h = tt

-- notations

pub told_noted : (least : ℕ) (s t : Standing) (place : Place) (w : NotationWord) (p q : PatternTree) (v u : Visible) (b : Bool) (o : Result Meaning Refusal) (m : Meaning) → new_loci least (loci_from least s.context.constants) p ≡ Some v → old_loci (loci_from least s.context.constants) q ≡ Some u →
    b ≡ are_alike w p q → b ≡ true → PatternReads s.environment s.context least q u o → o ≡ Ok m → t ≡ noted s (notation_of least s.context w p v m) → TakesNotation least s place w p q (Made [] t)
told_noted least s t place w p q v u b o m ev eu eb et h eo es =
    subst (λ z. TakesNotation least s place w p q (Made [] z)) (sym es) (no.is_read v u m ev eu (sym eb ∙ et) (subst (PatternReads s.environment s.context least q u) eo h))

refused : (X : Type 0) (least : ℕ) (s t : Standing) (place : Place) (w : NotationWord) (p q : PatternTree) (r : Refusal) (k : ItemFault) → k ≡ fault.Refused (Proof (Resolve r)) → TakesNotation least s place w p q (Refused (Proof (Resolve r))) →
    OnTaken {X = X} (Err k) (Leads (TakesNotation least s place w p q) t)
refused X least s t place w p q r k e h = subst (λ z. OnTaken {X = X} (Err z) (Leads (TakesNotation least s place w p q) t)) (sym e) h

pub told_unlike : (X : Type 0) (least : ℕ) (s t : Standing) (place : Place) (w : NotationWord) (p q : PatternTree) (v u : Visible) (b : Bool) (at : Place) (k : ItemFault) → new_loci least (loci_from least s.context.constants) p ≡ Some v →
    old_loci (loci_from least s.context.constants) q ≡ Some u → b ≡ are_alike w p q → b ≡ false → at ≡ symbol_place q → k ≡ fault.Refused (Proof (Resolve (UnknownSymbol at))) → OnTaken {X = X} (Err k) (Leads (TakesNotation least s place w p q) t)
told_unlike X least s t place w p q v u b at k ev eu eb ef ea ek =
    refused X least s t place w p q (UnknownSymbol (symbol_place q)) k (ek ∙ ap (λ z. fault.Refused (Proof (Resolve (UnknownSymbol z)))) ea) (no.unlike v u ev eu (sym eb ∙ ef))

pub told_unread : (X : Type 0) (least : ℕ) (s t : Standing) (place : Place) (w : NotationWord) (p q : PatternTree) (v u : Visible) (b : Bool) (o : Result Meaning Refusal) (r : Refusal) (k : ItemFault) → new_loci least (loci_from least s.context.constants) p ≡ Some v →
    old_loci (loci_from least s.context.constants) q ≡ Some u → b ≡ are_alike w p q → b ≡ true → PatternReads s.environment s.context least q u o → o ≡ Err r → k ≡ fault.Refused (Proof (Resolve r)) → OnTaken {X = X} (Err k) (Leads (TakesNotation least s place w p q) t)
told_unread X least s t place w p q v u b o r k ev eu eb et h eo ek =
    refused X least s t place w p q r k ek (no.not_read v u r ev eu (sym eb ∙ et) (subst (PatternReads s.environment s.context least q u) eo h))

-- parts

pub told_let : {X : Type 0} (least : ℕ) (s u : Standing) (p : NotationPartTree) (t : BlockLetTree) (z : Result X ItemFault) → p ≡ Let t → OnTaken z (Leads (Lets least s t) u) → OnTaken z (Leads (NotesPart least s p) u)
told_let least s u p t z is h = led_more (Lets least s t) (NotesPart least s p) u z (λ o k. subst (λ x. NotesPart least s x o) (sym is) (no.loci t o k)) h

pub told_notation : {X : Type 0} (least : ℕ) (s u : Standing) (r : NotationPartTree) (place between behind : Place) (w : NotationWord) (p q : PatternTree) (z : Result X ItemFault) → r ≡ Notation place w p between q behind → OnTaken z (Leads (TakesNotation least s place w p q) u) →
    OnTaken z (Leads (NotesPart least s r) u)
told_notation least s u r place between behind w p q z is h =
    led_more (TakesNotation least s place w p q) (NotesPart least s r) u z (λ o k. subst (λ x. NotesPart least s x o) (sym is) (no.notation place w p q between behind o k)) h

-- parts one after another, none of which makes an obligation

brought_none : {X Y : Type 0} (P : Taken Y → Type 0) (y : Y) (z : Result X ItemFault) → OnTaken z (Leads P y) → OnTaken z (Brings P y [] [])
brought_none P y (Ok x) h = record { made = []; is_made = h; are_last = refl }
brought_none P y (Err (fault.Refused r)) h = h
brought_none P y (Err fault.Memory) h = tt

led_by : {Y : Type 0} (P : Taken Y → Type 0) (y : Y) → IsBrought (λ ps. P (Made ps y)) [] [] → P (Made [] y)
led_by P y b = subst (λ ps. P (Made ps y)) (sym b.are_last) b.is_made

abbrev pub Noting : ℕ → Standing → List NotationPartTree → Standing → List NotationPartTree → Type 0
Noting least s rest s0 all = Reading (NotesPart least) s [] rest s0 [] all

pub noting_begun : (least : ℕ) (s : Standing) (all : List NotationPartTree) → Noting least s all s all
noting_begun least s all = told_begun (NotesPart least) s [] all

pub noting_turn : {Y : Type 0} (least : ℕ) (s u s0 : Standing) (p : NotationPartTree) (rest others all : List NotationPartTree) (z : Result Y ItemFault) (v : Y) → rest ≡ p ∷ others → OnTaken z (Leads (NotesPart least s p) u) → z ≡ Ok v → Noting least s rest s0 all → Noting least u others s0 all
noting_turn least s u s0 p rest others all z v is h e so_far = told_turn (NotesPart least) s u s0 [] [] [] p rest others all z v is (brought_none (NotesPart least s p) u z h) e so_far

led_refused : (Z : Type 0) {Y : Type 0} (P : Taken Y → Type 0) (y v : Y) (f : ItemFault) → OnTaken {X = Z} (Err f) (Brings P y [] []) → OnTaken {X = Z} (Err f) (Leads P v)
led_refused Z P y v (fault.Refused r) h = h
led_refused Z P y v fault.Memory h = tt

pub noting_stop : {Y : Type 0} (Z : Type 0) (least : ℕ) (s u v s0 : Standing) (p : NotationPartTree) (rest others all : List NotationPartTree) (z : Result Y ItemFault) (f : ItemFault) → rest ≡ p ∷ others → OnTaken z (Leads (NotesPart least s p) u) → z ≡ Err f → Noting least s rest s0 all →
    OnTaken {X = Z} (Err f) (Leads (OneByOne (NotesPart least) s0 all) v)
noting_stop Z least s u v s0 p rest others all z f is h e so_far =
    led_refused Z (OneByOne (NotesPart least) s0 all) v v f (told_stop Z (NotesPart least) s u v s0 [] [] [] [] p rest others all z f is (brought_none (NotesPart least s p) u z h) e so_far)

pub noting_end : (least : ℕ) (s s0 : Standing) (rest all : List NotationPartTree) → length rest ≡ 0 → Noting least s rest s0 all → OneByOne (NotesPart least) s0 all (Made [] s)
noting_end least s s0 rest all none so_far = led_by (OneByOne (NotesPart least) s0 all) s (told_end (NotesPart least) s s0 [] [] rest all none so_far)

-- the block

abbrev Parts : ℕ → Standing → List NotationPartTree → Taken Standing → Type 0
Parts least s xs = OneByOne (NotesPart least) s xs

block_so : (least : ℕ) (s : Standing) (t : NotationTree) (xs : List NotationPartTree) (o : Taken Standing) → least ≡ next s.context → xs ≡ t.parts → Parts least s xs o → NotesBlock s t (ended least o)
block_so least s t xs o e same h = subst (λ n. NotesBlock s t (ended n o)) (sym e) (no.block o (subst (λ ys. Parts (next s.context) s ys o) same (subst (λ n. Parts n s xs o) e h)))

pub told_ended : {X : Type 0} (least : ℕ) (s u v : Standing) (t : NotationTree) (xs : List NotationPartTree) (z : Result X ItemFault) (y : X) → least ≡ next s.context → xs ≡ t.parts → OnTaken z (Leads (Parts least s xs) u) → z ≡ Ok y →
    v ≡ with_context u (behind_loci u.context least) → NotesBlock s t (Made [] v)
told_ended least s u v t xs z y e same h is ev =
    subst (λ w. NotesBlock s t (Made [] w)) (sym ev) (block_so least s t xs (Made [] u) e same (subst (λ w. OnTaken w (Leads (Parts least s xs) u)) is h))

stopped : (least : ℕ) (s u v : Standing) (t : NotationTree) (xs : List NotationPartTree) (f : ItemFault) → least ≡ next s.context → xs ≡ t.parts → OnTaken {X = Unit {0}} (Err f) (Leads (Parts least s xs) u) → OnTaken {X = Unit {0}} (Err f) (Leads (NotesBlock s t) v)
stopped least s u v t xs (fault.Refused r) e same h = block_so least s t xs (Refused r) e same h
stopped least s u v t xs fault.Memory e same h = tt

pub told_stopped : (least : ℕ) (s u v : Standing) (t : NotationTree) (xs : List NotationPartTree) (z : Result (Unit {0}) ItemFault) (f : ItemFault) → least ≡ next s.context → xs ≡ t.parts → OnTaken z (Leads (Parts least s xs) u) → z ≡ Err f → OnTaken {X = Unit {0}} (Err f) (Leads (NotesBlock s t) v)
told_stopped least s u v t xs z f e same h is = stopped least s u v t xs f e same (subst (λ w. OnTaken w (Leads (Parts least s xs) u)) is h)
