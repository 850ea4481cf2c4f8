-- Made files and names are determined by how many there are.
use Rattle.std.proofs.Common.{◌≡◌, ℕ, ◌<◌, List, [], ◌∷◌, length, get_or, refl, sym, subst, ap, ◌∙◌}
use Rattle.std.proofs.lemmas.List.{ext_get_or}
use Rattle.mz_base.specs.Name.{text_of, number_of}
use Rattle.mz_base.specs.declared.name.Name.{Name}
use Rattle.mz_base.proofs.NameEqual.{Name-equal}
use Rattle.mz_io.specs.declared.file.File.{File}
use Rattle.mz_gen.specs.Made.{made_name, IsMadeFile, AreMadeFiles, AreMadeNames}

-- a name is its text
same_text : (a b : Name) (t : List ℕ) → text_of a.number ≡ t → text_of b.number ≡ t → a ≡ b
same_text a b t h k = Name-equal a b (sym a.spelled ∙ (ap number_of (h ∙ sym k) ∙ b.spelled))

same_file : (i : ℕ) (f g : File) → IsMadeFile i f → IsMadeFile i g → f ≡ g
same_file i f g h k =
    let name : f.name ≡ g.name = same_text f.name g.name (made_name i) h.named k.named in
    let kind : f.kind ≡ g.kind = h.article ∙ sym k.article in
    let bytes : f.bytes ≡ g.bytes = h.text ∙ sym k.text in
    λ j. record { kind = kind j; name = name j; bytes = bytes j }

below : (n m i : ℕ) → m ≡ n → i < m → i < n
below n m i e h = subst (λ k. i < k) e h

same_files_from : (d : File) (n : ℕ) (xs ys : List File) → AreMadeFiles n xs → AreMadeFiles n ys → xs ≡ ys
same_files_from d n xs ys h k =
    ext_get_or d xs ys (h.whole ∙ sym k.whole) (λ i l. same_file i (get_or xs i d) (get_or ys i d) (h.each i d (below n (length xs) i h.whole l)) (k.each i d (below n (length xs) i h.whole l)))

same_names_from : (d : Name) (n : ℕ) (xs ys : List Name) → AreMadeNames n xs → AreMadeNames n ys → xs ≡ ys
same_names_from d n xs ys h k =
    ext_get_or d xs ys (h.whole ∙ sym k.whole) (λ i l. same_text (get_or xs i d) (get_or ys i d) (made_name i) (h.each i d (below n (length xs) i h.whole l)) (k.each i d (below n (length xs) i h.whole l)))

no_more : {X : Type 0} (y : X) (ys : List X) → length {A = X} [] ≡ length (y ∷ ys) → ⊥
no_more y ys e = cc

pub same_files : (n : ℕ) (xs ys : List File) → AreMadeFiles n xs → AreMadeFiles n ys → xs ≡ ys
same_files n [] [] h k = refl
same_files n [] (y ∷ ys) h k = absurd (no_more y ys (h.whole ∙ sym k.whole))
same_files n (x ∷ xs) ys h k = same_files_from x n (x ∷ xs) ys h k

pub same_names : (n : ℕ) (xs ys : List Name) → AreMadeNames n xs → AreMadeNames n ys → xs ≡ ys
same_names n [] [] h k = refl
same_names n [] (y ∷ ys) h k = absurd (no_more y ys (h.whole ∙ sym k.whole))
same_names n (x ∷ xs) ys h k = same_names_from x n (x ∷ xs) ys h k
