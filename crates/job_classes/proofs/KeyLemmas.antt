-- What stands in keys, and that requests with equal keys have the same trees under the names that are reached.
use Rattle.std.proofs.Common.{◌≡◌, ◌≤◌, ◌<◌, ℕ, zero, suc, ◌+◌, Bool, true, false, cond, List, [], ◌∷◌, length, get_or, position}
use Rattle.std.proofs.Common.{Option, None, Some, slice_get, Contains, Ok, refl, sym, ◌∙◌, ap, subst, arith, ◌⊎◌, inl, inr}
use Rattle.std.specs.Prelude.{◌↔◌}
use Rattle.std.specs.List.{cons_option, flat_map, filter_map}
use Rattle.std.specs.Ordering.{is_lt, nat_cmp}
use Rattle.std.specs.Cmp.Lexicographic.{slice_cmp}
use Rattle.std.proofs.lemmas.List.{length-map}
use Rattle.std.proofs.lemmas.List.Elements.{Contains-append_left, Contains-append_right}
use Rattle.std.proofs.lemmas.List.Quantifiers.{position-Some}
use Rattle.pool_text.specs.Folding.{folded}
use Rattle.builtin_funcs.proofs.AlikeLemmas.{Both, both_none, both_some}
use Rattle.ad_tree.specs.declared.ad.Ad.{Ad}
use Rattle.ad_tree.specs.Ad.{ad_frames}
use Rattle.ad_tree.specs.Frames.{Frame, IsAd, attributes_at}
use Rattle.ad_tree.specs.Inline.{Inline, inner, Defs, no_defs, def, count, count_defs, height, highest_def, number, attributes_from, frames, def_names, spelled}
use Rattle.ad_tree.specs.Inline.{spelled_tree, settled, settled_defs}
use Rattle.ad_tree.specs.Names.{are_apart, has_name, same_name}
use Rattle.ad_tree.specs.Tree.{Tree}
use Rattle.ad_tree.proofs.InlineLemmas.{length-frames, names-attributes_from}
use Rattle.ad_tree.proofs.NameLemmas.{same_folded_form}
use Rattle.ad_tree.proofs.SpellingLemmas.{Stand, Stand-behind, as_it_is, map-as_it_is, plain-number, spelled-frames}
use Rattle.ad_grammar.specs.Made.{IsMade, DefsMade}
use Rattle.ad_parser.specs.Answers.{AnswersAd}
use Rattle.ad_parser.specs.Limits.{height_limit}
use Rattle.ad_parser.proofs.KeptLemmas.{ad_answer-made, ad_answer-within}
use Rattle.ad_printer.specs.Printed.{printed}
use Rattle.significant_attrs.specs.Matched.{AreMatchedAlike, docked_to}
use Rattle.significant_attrs.specs.Names.{weighed_names, asked_by, needed_in}
use Rattle.significant_attrs.specs.Reach.{IsReached, is_first, is_needed, first_names, reached_from}
use Rattle.significant_attrs.proofs.ContainLemmas.{contains_at, contains_cases, contains_first, contains_later, contains_none, named-one, same_name-folded}
use Rattle.significant_attrs.proofs.DockedLemmas.{both_along}
use Rattle.significant_attrs.proofs.ReachLemmas.{flat_map-names, list_is_least, listed-along}
use Rattle.job_classes.specs.Keys.{Entry, IsEntry, arranged, entered, entries, entry_of, key_from, key_of}
use Rattle.job_classes.proofs.SitsLemmas.{IsDefAt, Origin, def_at-stands, told-alike}

-- ---- what filtered lists contain

pub contains_filter_map : {A B : Type 0} (f : A → Option B) (xs : List A) (x : A) (y : B) → Contains xs x → f x ≡ Some y
    → Contains (filter_map f xs) y
contains_filter_map f [] x y h e = absurd (contains_none x h)
contains_filter_map f (a ∷ xs) x y h e = by (contains_filter_map f xs x y) (f a) refl (contains_cases a xs x h)
  where
    by : (Contains xs x → f x ≡ Some y → Contains (filter_map f xs) y) → (o : Option _) → f a ≡ o → (a ≡ x) ⊎ Contains xs x
        → Contains (cons_option o (filter_map f xs)) y
    by rest None is (inl same) = absurd (cc (is, e, ap f same))
    by rest None is (inr later) = rest later e
    by rest (Some b) is (inl same) =
        let equal : b ≡ y = cc (is, e, ap f same) in subst (λ c. Contains (b ∷ filter_map f xs) c) equal (contains_first b (filter_map f xs))
    by rest (Some b) is (inr later) = contains_later b (filter_map f xs) y (rest later e)

pub filter_map_contains : {A B : Type 0} (f : A → Option B) (xs : List A) (y : B) → Contains (filter_map f xs) y
    → (x : A) × Contains xs x × (f x ≡ Some y)
filter_map_contains f [] y h = absurd (contains_none y h)
filter_map_contains f (a ∷ xs) y h = by (filter_map_contains f xs y) (f a) refl h
  where
    later : (x : _) × Contains xs x × (f x ≡ Some y) → (x : _) × Contains (a ∷ xs) x × (f x ≡ Some y)
    later found = (found.0, contains_later a xs found.0 found.1, found.2)

    by : (Contains (filter_map f xs) y → (x : _) × Contains xs x × (f x ≡ Some y)) → (o : Option _) → f a ≡ o
        → Contains (cons_option o (filter_map f xs)) y → (x : _) × Contains (a ∷ xs) x × (f x ≡ Some y)
    by rest None is k = later (rest k)
    by rest (Some b) is k = elim (contains_cases b (filter_map f xs) y k) [
      | inl same ↦ (a, contains_first a xs, is ∙ ap Option.Some same)
      | inr more ↦ later (rest more)
    ]

-- ---- entries in order

entered-contains : (e : Entry) (es : List Entry) (x : Entry) → Contains (entered e es) x ↔ ((e ≡ x) ⊎ Contains es x)
entered-contains e [] x = (λ c. contains_cases e [] x c, λ c. back c)
  where
    back : (e ≡ x) ⊎ Contains [] x → Contains (e ∷ []) x
    back (inl same) = subst (Contains (e ∷ [])) same (contains_first e [])
    back (inr c) = absurd (contains_none x c)
entered-contains e (o ∷ es) x = by (entered-contains e es x) (is_lt (slice_cmp nat_cmp e.0 o.0))
  where
    there : Contains (entered e es) x ↔ ((e ≡ x) ⊎ Contains es x) → (o ≡ x) ⊎ Contains (entered e es) x → (e ≡ x) ⊎ Contains (o ∷ es) x
    there rest (inl same) = inr (subst (Contains (o ∷ es)) same (contains_first o es))
    there rest (inr c) = elim (rest.0 c) [ inl same ↦ inl same | inr later ↦ inr (contains_later o es x later) ]

    back : Contains (entered e es) x ↔ ((e ≡ x) ⊎ Contains es x) → (e ≡ x) ⊎ Contains (o ∷ es) x → Contains (o ∷ entered e es) x
    back rest (inl same) = contains_later o (entered e es) x (rest.1 (inl same))
    back rest (inr c) = elim (contains_cases o es x c) [
      | inl same ↦ subst (Contains (o ∷ entered e es)) same (contains_first o (entered e es))
      | inr later ↦ contains_later o (entered e es) x (rest.1 (inr later))
    ]

    front : (e ≡ x) ⊎ Contains (o ∷ es) x → Contains (e ∷ (o ∷ es)) x
    front (inl same) = subst (Contains (e ∷ (o ∷ es))) same (contains_first e (o ∷ es))
    front (inr c) = contains_later e (o ∷ es) x c

    by : Contains (entered e es) x ↔ ((e ≡ x) ⊎ Contains es x) → (b : Bool)
        → Contains (cond b (e ∷ (o ∷ es)) (o ∷ entered e es)) x ↔ ((e ≡ x) ⊎ Contains (o ∷ es) x)
    by rest true = (λ c. contains_cases e (o ∷ es) x c, front)
    by rest false = (λ c. there rest (contains_cases o (entered e es) x c), back rest)

arranged-contains : (done es : List Entry) (x : Entry) → Contains (arranged done es) x ↔ (Contains done x ⊎ Contains es x)
arranged-contains done [] x = (λ c. inl c, back)
  where
    back : Contains done x ⊎ Contains [] x → Contains done x
    back (inl c) = c
    back (inr c) = absurd (contains_none x c)
arranged-contains done (e ∷ es) x = by (arranged-contains (entered e done) es x) (entered-contains e done x)
  where
    there : Contains (entered e done) x ↔ ((e ≡ x) ⊎ Contains done x) → Contains (entered e done) x ⊎ Contains es x
        → Contains done x ⊎ Contains (e ∷ es) x
    there both (inl c) = elim (both.0 c) [ inl same ↦ inr (subst (Contains (e ∷ es)) same (contains_first e es)) | inr old ↦ inl old ]
    there both (inr c) = inr (contains_later e es x c)

    back : Contains (entered e done) x ↔ ((e ≡ x) ⊎ Contains done x) → Contains done x ⊎ Contains (e ∷ es) x
        → Contains (entered e done) x ⊎ Contains es x
    back both (inl c) = inl (both.1 (inr c))
    back both (inr c) = elim (contains_cases e es x c) [ inl same ↦ inl (both.1 (inl same)) | inr later ↦ inr later ]

    by : Contains (arranged (entered e done) es) x ↔ (Contains (entered e done) x ⊎ Contains es x)
        → Contains (entered e done) x ↔ ((e ≡ x) ⊎ Contains done x)
        → Contains (arranged (entered e done) es) x ↔ (Contains done x ⊎ Contains (e ∷ es) x)
    by rest both = (λ c. there both (rest.0 c), λ c. rest.1 (back both c))

-- of entries alone
arranged_from_none : (es : List Entry) (x : Entry) → Contains (arranged [] es) x ↔ Contains es x
arranged_from_none es x = (λ c. only ((arranged-contains [] es x).0 c), λ c. (arranged-contains [] es x).1 (inr c))
  where
    only : Contains [] x ⊎ Contains es x → Contains es x
    only (inl c) = absurd (contains_none x c)
    only (inr c) = c

-- ---- a key has exactly the attributes that are reached

module _ (first : List (List ℕ)) (request : List Frame) where
  abbrev kept : List ℕ × Tree → Option Entry
  kept a = cond (has_name a.0 (reached_from first request)) (Some (entry_of request a)) None

  key-entry : (e : Entry) → Contains (key_from first request) e → IsEntry first request e
  key-entry e c = by (filter_map_contains kept (attributes_at request 0) e ((arranged_from_none (entries (reached_from first request) request) e).0 c))
    where
      from : (a : List ℕ × Tree) (b : Bool) → has_name a.0 (reached_from first request) ≡ b → cond b (Some (entry_of request a)) None ≡ Some e
          → (b ≡ true) × (e ≡ entry_of request a)
      from a true is k = let same : entry_of request a ≡ e = cc (k) in (refl, sym same)
      from a false is k = absurd (cc (k))

      by : (a : List ℕ × Tree) × Contains (attributes_at request 0) a × (kept a ≡ Some e) → IsEntry first request e
      by found =
          let parts = from found.0 (has_name found.0.0 (reached_from first request)) refl found.2 in
          record { attribute = found.0; stands = found.1; reached = (list_is_least first request found.0.0).0 parts.0; is = parts.1 }

  pub entry-key : (e : Entry) → IsEntry first request e → Contains (key_from first request) e
  entry-key e h =
      (arranged_from_none (entries (reached_from first request) request) e).1
      (contains_filter_map kept (attributes_at request 0) h.attribute e h.stands
      (ap (λ b. cond b (Some (entry_of request h.attribute)) None) ((list_is_least first request h.attribute.0).1 h.reached) ∙ ap Option.Some (sym h.is)))

  pub key_has_entries : (e : Entry) → Contains (key_from first request) e ↔ IsEntry first request e
  key_has_entries e = (key-entry e, entry-key e)

-- ---- the definition at a place

record DefThere (b : ℕ) (ds : Defs) (k : ℕ) : Type 0 where
  called : List ℕ
  body : Inline
  from : ℕ
  at : IsDefAt b ds k from body
  stands : slice_get (attributes_from b ds) k ≡ Some (called, number from body)
  named : get_or (def_names ds) k [] ≡ called
  made : DefsMade ds → IsMade body
  low : height body ≤ highest_def ds
  few : count body ≤ count_defs ds

def_there : (b : ℕ) (ds : Defs) (k : ℕ) → k < length (def_names ds) → DefThere b ds k
def_there b no_defs k h = absurd (omega (arith, h))
def_there b (def text i ds) zero h =
    record { called = text; body = i; from = b; at = (refl, refl); stands = refl; named = refl; made = λ m. m.1; low = omega arith; few = omega arith }
def_there b (def text i ds) (suc k) h =
    let d = def_there (b + count i) ds k (omega (arith, h)) in
    let low = d.low in
    let few = d.few in
    record {
      called =
          d.called;
      body =
          d.body;
      from = d.from;
      at = d.at;
      stands = d.stands;
      named = d.named;
      made = λ m. d.made m.2;
      low = omega (arith, low);
      few = omega (arith, few);
    }

-- ---- two requests

-- what the request of a parse is
pub record IsParsed (ds : Defs) : Type 0 where
  pub made : DefsMade ds
  pub low : height (inner ds) ≤ height_limit
  pub ad : IsAd (frames 0 0 (inner ds))

stands-plainly : (gs : List Frame) → Stand as_it_is gs 0 gs
stands-plainly gs = subst (λ fs. Stand as_it_is fs 0 gs) (map-as_it_is gs) (Stand-behind as_it_is [] gs)

module _ (ds : Defs) (parsed : IsParsed ds) where
  names-apart : are_apart (def_names ds) ≡ true
  names-apart = ap are_apart (sym (names-attributes_from 1 ds)) ∙ parsed.ad.apart 0

  def-spelled : (k : ℕ) (d : DefThere 1 ds k) → spelled_tree (frames 0 0 (inner ds)) (number d.from d.body) ≡ d.body
  def-spelled k d =
      let few = d.few in
      plain-number (frames 0 0 (inner ds)) (length (frames 0 0 (inner ds))) 0 d.from d.body (omega (arith, few, length-frames 0 0 (inner ds)))
      (def_at-stands (frames 0 0 (inner ds)) 0 1 ds k d.from d.body (stands-plainly (frames 0 0 (inner ds))).1 d.at)

module _ (first : List (List ℕ)) (ds es : Defs) (one : IsParsed ds) (other : IsParsed es)
    (injective : (x y : Inline) → IsMade x → IsMade y → height x ≤ height_limit → height y ≤ height_limit → printed x ≡ printed y → x ≡ y)
    (keys : key_from first (frames 0 0 (inner ds)) ≡ key_from first (frames 0 0 (inner es)))
  where
    -- a name that both reach
    abbrev Reached : List ℕ → Type 0
    Reached x = IsReached first (frames 0 0 (inner ds)) (folded x) × IsReached first (frames 0 0 (inner es)) (folded x)

    -- what the one root has under such a name, the other has
    matched : (x : List ℕ) → Reached x → (k : ℕ) → position (same_name x) (def_names ds) ≡ Some k
        → (l : ℕ) × (position (same_name x) (def_names es) ≡ Some l) × Origin Reached ds es k l
    matched x r k at =
        let fs = frames 0 0 (inner ds) in
        let gs = frames 0 0 (inner es) in
        let found = position-Some (same_name x) (def_names ds) k [] at in
        let d = def_there 1 ds k found.0 in
        let a : List ℕ × Tree = (d.called, number d.from d.body) in
        let same : folded x ≡ folded d.called = same_folded_form x (get_or (def_names ds) k []) found.1 ∙ ap folded d.named in
        let stands : Contains (attributes_at fs 0) a = contains_at (attributes_from 1 ds) k a d.stands in
        let reached : IsReached first fs (folded a.0) = subst (IsReached first fs) same r.0 in
        let here : Contains (key_from first fs) (entry_of fs a) =
        entry-key first fs (entry_of fs a) (record { attribute = a; stands = stands; reached = reached; is = refl }) in
        let there : IsEntry first gs (entry_of fs a) = (key_has_entries first gs (entry_of fs a)).0 (subst (λ es2. Contains es2 (entry_of fs a)) keys here) in
        joined d a refl same stands reached there
      where
        joined : (d : DefThere 1 ds k) (a : List ℕ × Tree) → a ≡ (d.called, number d.from d.body) → folded x ≡ folded d.called
            → Contains (attributes_at (frames 0 0 (inner ds)) 0) a
            → IsReached first (frames 0 0 (inner ds)) (folded a.0) → IsEntry first (frames 0 0 (inner es)) (entry_of (frames 0 0 (inner ds)) a)
            → (l : ℕ) × (position (same_name x) (def_names es) ≡ Some l) × Origin Reached ds es k l
        joined d a a_is same stands reached e =
            let fs = frames 0 0 (inner ds) in
            let gs = frames 0 0 (inner es) in
            let l = e.stands.0 in
            let within = e.stands.1 in
            let low : l < length (def_names es) =
            omega (arith, within, ap (λ ns. length ns) (names-attributes_from 1 es), length-map (attributes_from 1 es) (λ b. b.0)) in
            let f = def_there 1 es l low in
            let b_is : e.attribute ≡ (f.called, number f.from f.body) =
            at_index (attributes_from 1 es) l e.attribute (f.called, number f.from f.body) f.stands e.stands.2 in
            let names : folded f.called ≡ folded x =
            ap (λ (b : List ℕ × Tree). folded b.0) (sym b_is) ∙ ap (λ (p : Entry). p.0) (sym e.is)
            ∙ ap (λ (b : List ℕ × Tree). folded b.0) a_is ∙ sym same in
            let mine : spelled_tree fs a.1 ≡ d.body = ap (λ (b : List ℕ × Tree). spelled_tree fs b.1) a_is ∙ def-spelled ds one k d in
            let yours : spelled_tree gs e.attribute.1 ≡ f.body = ap (λ (b : List ℕ × Tree). spelled_tree gs b.1) b_is ∙ def-spelled es other l f in
            let texts : printed d.body ≡ printed f.body = ap printed (sym mine) ∙ ap (λ (p : Entry). p.1) e.is ∙ ap printed yours in
            let d_low = d.low in
            let f_low = f.low in
            let one_low = one.low in
            let other_low = other.low in
            let bodies : d.body ≡ f.body =
            injective d.body f.body (d.made one.made) (f.made other.made) (omega (arith, d_low, one_low)) (omega (arith, f_low, other_low)) texts in
            let there_at : position (same_name x) (def_names es) ≡ Some l =
            named-one x (def_names es) l (names-apart es other) low
            (same_name-back x (get_or (def_names es) l []) (sym names ∙ ap folded (sym f.named))) in (
              l,
              there_at,
              record {
                called = x;
                at_k = at;
                at_l = there_at;
                body = d.body;
                s = d.from;
                t = f.from;
                here = d.at;
                there = subst (λ i. IsDefAt 1 es l f.from i) (sym bodies) f.at;
                names = λ y h. (
                  is_needed a y stands reached (subst (λ i. Contains (needed_in i) y) (sym mine) h),
                  is_needed e.attribute y e.stands e.reached (subst (λ i. Contains (needed_in i) y) (bodies ∙ sym yours) h),
                );
              },
            )
          where
            at_index : (xs : List (List ℕ × Tree)) (j : ℕ) (b c : List ℕ × Tree) → slice_get xs j ≡ Some c → get_or xs j b ≡ b → b ≡ c
            at_index [] j b c e g = absurd (cc)
            at_index (z ∷ xs) zero b c e g = let one : z ≡ c = cc (e) in sym g ∙ one
            at_index (z ∷ xs) (suc j) b c e g = at_index xs j b c e g

            same_name-back : (m n : List ℕ) → folded m ≡ folded n → same_name m n ≡ true
            same_name-back m n e = same_name-folded m n e

module _ (first : List (List ℕ)) (ds es : Defs) (one : IsParsed ds) (other : IsParsed es)
    (injective : (x y : Inline) → IsMade x → IsMade y → height x ≤ height_limit → height y ≤ height_limit → printed x ≡ printed y → x ≡ y)
    (keys : key_from first (frames 0 0 (inner ds)) ≡ key_from first (frames 0 0 (inner es)))
  where
    abbrev BothReach : List ℕ → Type 0
    BothReach x = IsReached first (frames 0 0 (inner ds)) (folded x) × IsReached first (frames 0 0 (inner es)) (folded x)

    shared : (x : List ℕ) → BothReach x → Both (Origin BothReach ds es) (position (same_name x) (def_names ds)) (position (same_name x) (def_names es))
    shared x r = by (position (same_name x) (def_names ds)) refl (position (same_name x) (def_names es)) refl
      where
        by : (o : Option ℕ) → position (same_name x) (def_names ds) ≡ o → (p : Option ℕ) → position (same_name x) (def_names es) ≡ p
            → Both (Origin BothReach ds es) o p
        by None at None also = both_none
        by (Some k) at p also = let found = matched first ds es one other injective keys x r k at in both_along refl (sym also ∙ found.1) (both_some found.2)
        by None at (Some l) also = let found = matched first es ds other one injective (sym keys) x (r.1, r.0) l also in absurd (cc (at, found.1))

    -- no ad that asks for no other names tells them apart
    pub told_apart_by_none : (res : List Frame) → ((y : List ℕ) → Contains weighed_names y → Contains first y)
        → ((y : List ℕ) → Contains (asked_by res) y → Contains first y) → (moment : ℕ)
        → AreMatchedAlike (docked_to moment (frames 0 0 (inner ds)) res) (docked_to moment (frames 0 0 (inner es)) res)
    told_apart_by_none res weighed asked moment =
        told-alike (record {
          fs = frames 0 0 (inner ds);
          gs = frames 0 0 (inner es);
          ds = ds;
          es = es;
          res = res;
          R = BothReach;
          here = stands-plainly (frames 0 0 (inner ds));
          there = stands-plainly (frames 0 0 (inner es));
          here_lower = one.ad.lower;
          there_lower = other.ad.lower;
          weighed = λ y c. (is_first y (weighed y c), is_first y (weighed y c));
          asked = λ y c. (is_first y (asked y c), is_first y (asked y c));
          shared = shared;
        }) moment

-- ---- requests that a parse gave

pub record IsParsedAd (fs : List Frame) : Type 0 where
  pub ds : Defs
  pub is : fs ≡ frames 0 0 (inner ds)
  pub parsed : IsParsed ds

pub parsed-ad : (text : List ℕ) (ad : Ad) → AnswersAd text (Ok ad) → IsParsedAd (ad_frames ad)
parsed-ad text ad answer =
    let root = answer.1.reads in
    let ds = settled_defs no_defs root.0 in
    let is : ad_frames ad ≡ frames 0 0 (inner ds) = answer.3 ∙ ap (λ x. frames 0 0 (settled x)) root.1 in
    let spells : spelled (ad_frames ad) ≡ inner ds = ap spelled is ∙ spelled-frames ds in
    record {
      ds = ds;
      is = is;
      parsed = record {
        made = subst IsMade spells (ad_answer-made text ad answer);
        low = subst (λ x. height x ≤ height_limit) spells (ad_answer-within text ad answer).low;
        ad = subst IsAd is ad.is_ad;
      };
    }

-- the law on two requests that parses gave
pub equal_keys-alike : ((x y : Inline) → IsMade x → IsMade y → height x ≤ height_limit → height y ≤ height_limit → printed x ≡ printed y
    → x ≡ y)
    → (text other_text : List ℕ) (one other : Ad) (ads : List (List Frame)) (ad : List Frame) (moment : ℕ)
    → AnswersAd text (Ok one) → AnswersAd other_text (Ok other) → key_of ads (ad_frames one) ≡ key_of ads (ad_frames other) → Contains ads ad
    → AreMatchedAlike (docked_to moment (ad_frames one) ad) (docked_to moment (ad_frames other) ad)
equal_keys-alike injective text other_text one other ads ad moment answer other_answer keys stands =
    let p = parsed-ad text one answer in
    let q = parsed-ad other_text other other_answer in
    subst (λ fs. AreMatchedAlike (docked_to moment fs ad) (docked_to moment (ad_frames other) ad)) (sym p.is)
    (subst (λ gs. AreMatchedAlike (docked_to moment (frames 0 0 (inner p.ds)) ad) (docked_to moment gs ad)) (sym q.is)
    (told_apart_by_none (first_names ads) p.ds q.ds p.parsed q.parsed injective
    (ap (key_of ads) (sym p.is) ∙ keys ∙ ap (key_of ads) q.is) ad
    (λ y c. Contains-append_left weighed_names (flat_map asked_by ads) y c)
    (λ y c. Contains-append_right weighed_names (flat_map asked_by ads) y (flat_map-names ads ad y stands c)) moment))

-- ---- the same names in another order

entries-along : (names others : List (List ℕ)) (request : List Frame) → ((x : List ℕ) → has_name x names ≡ has_name x others)
    → (attributes : List (List ℕ × Tree))
    → filter_map (λ a. cond (has_name a.0 names) (Some (entry_of request a)) None) attributes
    ≡ filter_map (λ a. cond (has_name a.0 others) (Some (entry_of request a)) None) attributes
entries-along names others request same [] = refl
entries-along names others request same (a ∷ rest) =
    ap (λ b. cons_option (cond b (Some (entry_of request a)) None) (filter_map (λ c. cond (has_name c.0 names) (Some (entry_of request c)) None) rest))
    (same a.0)
    ∙ ap (cons_option (cond (has_name a.0 others) (Some (entry_of request a)) None)) (entries-along names others request same rest)

pub keys-alike : (first other : List (List ℕ)) → ((x : List ℕ) → has_name x first ≡ has_name x other) → (request : List Frame)
    → key_from first request ≡ key_from other request
keys-alike first other same request =
    ap (arranged []) (entries-along (reached_from first request) (reached_from other request) request (listed-along first other same request)
    (attributes_at request 0))
