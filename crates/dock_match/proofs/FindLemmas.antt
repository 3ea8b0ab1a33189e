-- What a name finds in a world, beside the expression that it has in the frames of an ad.
use Rattle.std.proofs.Common.{◌≡◌, ℕ, suc, Bool, true, false, refl, List, [], ◌∷◌, map, Option, None, Some, IsSome, option_map, cond, ◌||◌}
use Rattle.std.proofs.Common.{bytes_eq, ap, sym, ◌∙◌}
use Rattle.std.specs.Option.{option_and_then, option_or}
use Rattle.std.proofs.lemmas.Slice.Eq.{bytes_eq-Decides}
use Rattle.pool_text.specs.declared.language.AdPlace.{AdPlace}
use Rattle.pool_text.specs.declared.language.Pos.{Pos}
use Rattle.pool_text.specs.declared.language.Lit.{Lit}
use Rattle.pool_text.specs.Folding.{folded}
use Rattle.ad_value.specs.Plain.{Plain, plain_of_lit}
use Rattle.ad_tree.specs.declared.request.Port.{Port}
use Rattle.ad_tree.specs.Tree.{Tree, node, frame, literal, name, unary, binary, all, any, choice, select, subscript, call, list}
use Rattle.ad_tree.specs.Enclosing.{enclosed_expr, enclosing_frames, expr_named, first_expr}
use Rattle.ad_tree.specs.Frames.{Frame, expr_at}
use Rattle.ad_tree.specs.Names.{same_name, has_name}
use Rattle.ad_tree.specs.Special.{attribute_named}
use Rattle.eval_scope.specs.declared.found.Found.{Found}
use Rattle.eval_scope.specs.World.{PlainWorld, expr_of, frame_of_attribute, frames_of_ad}
use Rattle.eval_scope.specs.Look.{in_frame, enclosing, first_found, found_at, found_attribute, labels_from, or_else}
use Rattle.eval_scope.proofs.LookLemmas.{attribute_in-there}
use Rattle.ad_eval.specs.Node.{named}
use Rattle.ad_eval.specs.Value.{value_at, value_by}
use Rattle.conjunct_plan.specs.Decided.{counted}
use Rattle.conjunct_plan.specs.Tests.{constant, labels_of, own_side}
use Rattle.conjunct_plan.specs.Tests.{named as named_side}

-- what was found is the attribute with this expression, or nothing where there is none
abbrev pub Finds : PlainWorld → Found → Option Tree → Type 0
Finds w Found.Nothing t = t ≡ None
Finds w (Found.Attr s) t = (t ≡ expr_of w s) × IsSome t
Finds w (Found.Place p) t = ⊥

-- ---- frames

pub finds-here : (w : PlainWorld) (p : AdPlace) (x : List ℕ) → Finds w (found_at w x (in_frame p)) (expr_named (frames_of_ad w p.ad) p.frame x)
finds-here w p x = by (attribute_named (frames_of_ad w p.ad) p.frame x) refl
  where
    by : (o : Option ℕ) → attribute_named (frames_of_ad w p.ad) p.frame x ≡ o
        → Finds w (found_attribute (option_map (λ k. record { ad = p.ad; frame = p.frame; attr = k }) o))
        (option_and_then (λ k. expr_at (frames_of_ad w p.ad) p.frame k) o)
    by None e = refl
    by (Some k) e = (
      refl,
      attribute_in-there w p x (record { ad = p.ad; frame = p.frame; attr = k })
          (ap (option_map {U = Pos} (λ k. record { ad = p.ad; frame = p.frame; attr = k })) e),
    )

finds-either : (w : PlainWorld) (a b : Found) (t u : Option Tree) → Finds w a t → Finds w b u → Finds w (or_else a b) (option_or t u)
finds-either w Found.Nothing b None u h k = k
finds-either w Found.Nothing b (Some t) u h k = absurd (cc)
finds-either w (Found.Attr s) b None u h k = absurd (cc (h.1))
finds-either w (Found.Attr s) b (Some t) u h k = h
finds-either w (Found.Place p) b t u h k = absurd h

finds-first : (w : PlainWorld) (k : ℕ) (x : List ℕ) (fs : List ℕ)
    → Finds w (first_found w x (map (λ f. in_frame (record { ad = k; frame = f })) fs)) (first_expr (frames_of_ad w k) x fs)
finds-first w k x [] = refl
finds-first w k x (f ∷ fs) =
    finds-either w (found_at w x (in_frame (record { ad = k; frame = f }))) (first_found w x (map (λ f. in_frame (record { ad = k; frame = f })) fs))
    (expr_named (frames_of_ad w k) f x) (first_expr (frames_of_ad w k) x fs)
    (finds-here w (record { ad = k; frame = f }) x) (finds-first w k x fs)

pub finds-enclosed : (w : PlainWorld) (p : AdPlace) (x : List ℕ) → Finds w (first_found w x (enclosing w p)) (enclosed_expr (frames_of_ad w p.ad) p.frame x)
finds-enclosed w p x = finds-first w p.ad x (enclosing_frames (frames_of_ad w p.ad) p.frame)

-- one frame alone
pub finds-alone : (w : PlainWorld) (p : AdPlace) (x : List ℕ) → Finds w (first_found w x (in_frame p ∷ [])) (expr_named (frames_of_ad w p.ad) p.frame x)
finds-alone w p x = by (found_at w x (in_frame p)) (finds-here w p x)
  where
    by : (found : Found) → Finds w found (expr_named (frames_of_ad w p.ad) p.frame x)
        → Finds w (or_else found Found.Nothing) (expr_named (frames_of_ad w p.ad) p.frame x)
    by Found.Nothing h = h
    by (Found.Attr s) h = h
    by (Found.Place q) h = h

pub finds-nothing : (w : PlainWorld) (found : Found) (t : Option Tree) → Finds w found t → t ≡ None → found ≡ Found.Nothing
finds-nothing w Found.Nothing t h e = refl
finds-nothing w (Found.Attr s) None h e = absurd (cc (h.1))
finds-nothing w (Found.Attr s) (Some t) h e = absurd (cc)
finds-nothing w (Found.Place p) t h e = absurd h

pub finds-something : (w : PlainWorld) (found : Found) (t : Option Tree) (u : Tree) → Finds w found t → t ≡ Some u → found ≡ Found.Nothing → ⊥
finds-something w Found.Nothing t u h e nothing = cc
finds-something w (Found.Attr s) t u h e nothing = cc
finds-something w (Found.Place p) t u h e nothing = h

-- ---- labels

same_name-symm : (a b : List ℕ) → same_name a b ≡ false → same_name b a ≡ false
same_name-symm a b apart = by (bytes_eq (folded b) (folded a)) refl
  where
    by : (r : Bool) → bytes_eq (folded b) (folded a) ≡ r → bytes_eq (folded b) (folded a) ≡ false
    by true e =
        let same : folded b ≡ folded a = (bytes_eq-Decides (folded b) (folded a)).0 e in
        let back : bytes_eq (folded a) (folded b) ≡ true = (bytes_eq-Decides (folded a) (folded b)).1 (sym same) in
        absurd (cc)
    by false e = e

unlabelled-one : (x label : List ℕ) (k : ℕ) (rest : Found) → same_name label x ≡ false
    → or_else (cond (same_name x label) (Found.Place (record { ad = k; frame = 0 })) Found.Nothing) rest ≡ rest
unlabelled-one x label k rest apart = ap (λ b. or_else (cond b (Found.Place (record { ad = k; frame = 0 })) Found.Nothing) rest) (same_name-symm label x apart)

pub unlabelled : (w : PlainWorld) (x : List ℕ) (k : ℕ) (ports : List Port) (docked : List (List Frame)) → has_name x (labels_of ports) ≡ false
    → first_found w x (labels_from k ports docked) ≡ Found.Nothing
unlabelled w x k [] docked apart = refl
unlabelled w x k (port ∷ ports) [] apart = refl
unlabelled w x k (port ∷ ports) (ad ∷ docked) apart = by (λ e. unlabelled w x (suc k) ports docked e) (same_name port.label x) refl apart
  where
    by : (has_name x (labels_of ports) ≡ false → first_found w x (labels_from (suc k) ports docked) ≡ Found.Nothing)
        → (a : Bool) → same_name port.label x ≡ a → (a || has_name x (labels_of ports)) ≡ false
        → first_found w x (labels_from k (port ∷ ports) (ad ∷ docked)) ≡ Found.Nothing
    by behind true e g = absurd (cc)
    by behind false e g = unlabelled-one x port.label k (first_found w x (labels_from (suc k) ports docked)) e ∙ behind g

-- ---- values

-- an attribute that counts as something has that value
pub named-counted : (w : PlainWorld) (n : ℕ) (found : Found) (t : Option Tree) (v : Plain) → Finds w found t → counted t ≡ Some v
    → named (value_at (suc n) w) found ≡ Some v
unfolding value_at
named-counted w n Found.Nothing None v h e = e
named-counted w n Found.Nothing (Some t) v h e = absurd (cc)
named-counted w n (Found.Attr s) None v h e = absurd (cc (h.1))
named-counted w n (Found.Attr s) (Some (node (literal lit) ts)) v h e = ap (option_and_then (value_by (value_at n w) w (frame_of_attribute s))) (sym h.0) ∙ e
named-counted w n (Found.Attr s) (Some (node (name scope x) ts)) v h e = absurd (cc)
named-counted w n (Found.Attr s) (Some (node (unary op) ts)) v h e = absurd (cc)
named-counted w n (Found.Attr s) (Some (node (binary op) ts)) v h e = absurd (cc)
named-counted w n (Found.Attr s) (Some (node all ts)) v h e = absurd (cc)
named-counted w n (Found.Attr s) (Some (node any ts)) v h e = absurd (cc)
named-counted w n (Found.Attr s) (Some (node choice ts)) v h e = absurd (cc)
named-counted w n (Found.Attr s) (Some (node (select x) ts)) v h e = absurd (cc)
named-counted w n (Found.Attr s) (Some (node subscript ts)) v h e = absurd (cc)
named-counted w n (Found.Attr s) (Some (node (call x) ts)) v h e = absurd (cc)
named-counted w n (Found.Attr s) (Some (node list ts)) v h e = absurd (cc)
named-counted w n (Found.Attr s) (Some (frame f)) v h e = absurd (cc)
named-counted w n (Found.Place p) t v h e = absurd h

-- an own attribute is a constant by its literal, and never an attribute of the other side
pub own-counted : (found : Option Tree) (lit : Lit) → own_side found ≡ constant lit → counted found ≡ Some (plain_of_lit lit)
own-counted None lit e = absurd (cc)
own-counted (Some (node (literal l) ts)) lit e = let same : l ≡ lit = cc in ap (λ x. Some (plain_of_lit x)) same
own-counted (Some (node (name scope x) ts)) lit e = absurd (cc)
own-counted (Some (node (unary op) ts)) lit e = absurd (cc)
own-counted (Some (node (binary op) ts)) lit e = absurd (cc)
own-counted (Some (node all ts)) lit e = absurd (cc)
own-counted (Some (node any ts)) lit e = absurd (cc)
own-counted (Some (node choice ts)) lit e = absurd (cc)
own-counted (Some (node (select x) ts)) lit e = absurd (cc)
own-counted (Some (node subscript ts)) lit e = absurd (cc)
own-counted (Some (node (call x) ts)) lit e = absurd (cc)
own-counted (Some (node list ts)) lit e = absurd (cc)
own-counted (Some (frame f)) lit e = absurd (cc)

pub own-unnamed : (found : Option Tree) (x : List ℕ) → own_side found ≡ named_side x → ⊥
own-unnamed None x e = cc
own-unnamed (Some (node (literal l) ts)) x e = cc
own-unnamed (Some (node (name scope y) ts)) x e = cc
own-unnamed (Some (node (unary op) ts)) x e = cc
own-unnamed (Some (node (binary op) ts)) x e = cc
own-unnamed (Some (node all ts)) x e = cc
own-unnamed (Some (node any ts)) x e = cc
own-unnamed (Some (node choice ts)) x e = cc
own-unnamed (Some (node (select y) ts)) x e = cc
own-unnamed (Some (node subscript ts)) x e = cc
own-unnamed (Some (node (call y) ts)) x e = cc
own-unnamed (Some (node list ts)) x e = cc
own-unnamed (Some (frame f)) x e = cc
