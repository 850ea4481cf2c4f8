-- The readings of parts one behind another, and of a form that is such parts.
use Rattle.std.proofs.Common.{◌≡◌, ℕ, List, Result, Ok, Err}
use Rattle.mz_base.specs.declared.token.MarkedToken.{MarkedToken}
use Rattle.mz_forms.specs.declared.refusal.Refusal.{Refusal}
use Rattle.mz_forms.specs.Form.{Form, Found, Leads, then}
use Rattle.mz_forms.specs.Reading.{Refuses}
use Rattle.mz_forms.proofs.Choose.{Reshapes}
use Rattle.mz_forms.proofs.Compose.{Apart}
use Rattle.mz_forms.proofs.Leads.{beside, first_refuses, leads_as, leads_behind, passes}

-- No token both goes on the first part and begins the second, and behind each first part a second may stand.
pub record Joined (A : Form MarkedToken) (K : A.Tree → Form MarkedToken) : Type 0 where
  pub apart : Apart A K
  pub some : (a : A.Tree) → A.IsTree a → (k : (K a).Tree) × (K a).IsTree k

module _ (A : Form MarkedToken) (K : A.Tree → Form MarkedToken) (by : Joined A K) (room : ℕ) (b : List MarkedToken) where
  pub first_refused : (after : List MarkedToken) (e : Refusal) → Refuses A room b e after → Refuses (then A K) room b e after
  first_refused after e h = first_refuses A K by.apart room b after e by.some h

  pub leads_second : (a : A.Tree) (c : List MarkedToken) → Found A room b a c → Leads (then A K) (K a) room (beside A K a) b c
  leads_second a c found = leads_behind A K by.apart room b c a found

  pub second_refused : (a : A.Tree) (c : List MarkedToken) → Found A room b a c → (after : List MarkedToken) (e : Refusal) → Refuses (K a) room c e after → Refuses (then A K) room b e after
  second_refused a c found after e h = passes (then A K) (K a) room (beside A K a) b c after e (leads_second a c found) h

  pub both_found : (a : A.Tree) (c : List MarkedToken) → Found A room b a c → (k : (K a).Tree) (after : List MarkedToken) → Found (K a) room c k after → Found (then A K) room b (a, k) after
  both_found a c found k after h = (leads_second a c found).finds k after h

module _ (X S : Form MarkedToken) (build : S.Tree → X.Tree) (room : ℕ) (b : List MarkedToken) (same : Reshapes X S build b) where
  pub shaped_refused : (after : List MarkedToken) (e : Refusal) → Refuses S room b e after → Refuses X room b e after
  shaped_refused after e h = passes X S room build b b after e (leads_as X S build room b same) h

  pub shaped_found : (s : S.Tree) (after : List MarkedToken) → Found S room b s after → Found X room b (build s) after
  shaped_found s after h = (leads_as X S build room b same).finds s after h
