-- Each text has one tree within the limits or one fault, and not both.
use Rattle.std.proofs.Common.{◌≡◌, ◌⊎◌, ℕ, zero, suc, ◌+◌, ◌-◌, ◌<◌, ◌≤◌, true, false, List, Result, Ok, Err, refl, sym, subst}
use Rattle.std.proofs.Common.{ap, ◌∙◌, inl, inr, arith}
use Rattle.std.proofs.lemmas.Bool.{cases_Bool, cases_lt, lt-ltb, le-ltb}
use Rattle.ad_lexer.proofs.Texts as texts
use Rattle.ad_tree.specs.Inline.{Inline, height, definitions}
use Rattle.ad_parser.specs.declared.fault.ParseFault.{ParseFault}
use Rattle.ad_parser.specs.declared.fault.ParseFault.TheVariants as faults
use Rattle.ad_parser.specs.Answers.{HasWords, Spells, IsWithin}
use Rattle.ad_grammar.specs.Nesting.{nests_too_deep}
use Rattle.ad_parser.specs.Limits.{height_limit, frame_limit, definition_limit}
use Rattle.ad_parser.specs.OneAnswer.{HasFault, HasOneAnswer}
use Rattle.ad_parser.specs.Outcomes.{HasOutcome, limited}
use Rattle.ad_grammar.specs.Words.{Word, words}

above_not : (n limit : ℕ) → n ≤ limit → limit < n → ⊥
above_not n limit low high = omega arith

words_same : (text : List ℕ) (ws vs : List Word) → HasWords text ws → HasWords text vs → ws ≡ vs
words_same text ws vs a b = a.are ∙ ap words (texts.tokens_same text a.tokens b.tokens a.has b.has) ∙ sym b.are

-- a tree that is spelled is within the limits, or it is known which it goes beyond first
pub limited-has : (rule : List Word → Inline → Type 0) (frames : Inline → ℕ) (text : List ℕ) (x : Inline) → Spells rule text x
    → HasOutcome rule frames text (limited frames x)
limited-has rule frames text x s =
    elim (cases_lt height_limit (height x)) [
      | inl high ↦ rw (lt-ltb height_limit (height x) high) ((x, s, high), λ e. absurd cc)
      | inr low ↦
          elim (cases_lt frame_limit (frames x)) [
            | inl many ↦ rw (le-ltb height_limit (height x) low, lt-ltb frame_limit (frames x) many) ((x, s, low, many), λ e. absurd cc)
            | inr few ↦
                elim (cases_lt definition_limit (definitions x)) [
                  | inl more ↦ rw (le-ltb height_limit (height x) low, le-ltb frame_limit (frames x) few, lt-ltb definition_limit (definitions x) more)
                      ((x, s, low, few, more), λ e. absurd cc)
                  | inr fewer ↦
                      rw (le-ltb height_limit (height x) low, le-ltb frame_limit (frames x) few, le-ltb definition_limit (definitions x) fewer)
                      (s, record { low = low; few_frames = few; few_definitions = fewer })
                ]
          ]
    ]

module _ (rule : List Word → Inline → Type 0) (frames : Inline → ℕ) (one : (ws : List Word) (x y : Inline) → rule ws x → rule ws y → x ≡ y)
    (decided : (ws : List Word) → ((x : Inline) × rule ws x) ⊎ ((x : Inline) → rule ws x → ⊥)) where
  pub spells_same : (text : List ℕ) (x y : Inline) → Spells rule text x → Spells rule text y → x ≡ y
  spells_same text x y a b = one b.ws x y (subst (λ ws. rule ws x) (words_same text a.ws b.ws a.has b.has) a.reads) b.reads

  -- how far a text comes through the tests of a parse
  abbrev Passes : ℕ → List ℕ → Type 0
  Passes zero text = Unit {0}
  Passes (suc zero) text = (ws : List Word) × HasWords text ws
  Passes (suc (suc zero)) text = (ws : List Word) × HasWords text ws × (nests_too_deep ws ≡ false)
  Passes (suc (suc (suc zero))) text = (x : Inline) × Spells rule text x
  Passes (suc (suc (suc (suc zero)))) text = (x : Inline) × Spells rule text x × (height x ≤ height_limit)
  Passes (suc (suc (suc (suc (suc zero))))) text = (x : Inline) × Spells rule text x × (height x ≤ height_limit) × (frames x ≤ frame_limit)
  Passes (suc (suc (suc (suc (suc (suc n)))))) text = (x : Inline) × Spells rule text x × IsWithin frames x

  passes_before : (k : ℕ) (text : List ℕ) → Passes (suc k) text → Passes k text
  passes_before zero text p = tt
  passes_before (suc zero) text p = (p.0, p.1)
  passes_before (suc (suc zero)) text p = (p.1.ws, p.1.has, p.1.shallow)
  passes_before (suc (suc (suc zero))) text p = (p.0, p.1)
  passes_before (suc (suc (suc (suc zero)))) text p = (p.0, p.1, p.2)
  passes_before (suc (suc (suc (suc (suc zero))))) text p = (p.0, p.1, p.2.low, p.2.few_frames)
  passes_before (suc (suc (suc (suc (suc (suc n)))))) text p = p

  passes_down : (j k : ℕ) (text : List ℕ) → Passes (j + k) text → Passes k text
  passes_down zero k text p = let e : 0 + k ≡ k = omega arith in subst (λ n. Passes n text) e p
  passes_down (suc j) k text p =
      let e : suc j + k ≡ suc (j + k) = omega arith in passes_down j k text (passes_before (j + k) text (subst (λ n. Passes n text) e p))

  passes_below : (k n : ℕ) (text : List ℕ) → k ≤ n → Passes n text → Passes k text
  passes_below k n text within p = let e : n ≡ (n - k) + k = omega arith in passes_down (n - k) k text (subst (λ m. Passes m text) e p)

  -- the place of a fault among them
  abbrev place_of : ParseFault → ℕ
  place_of (faults.Lex kind place) = 0
  place_of faults.Nesting = 1
  place_of faults.Grammar = 2
  place_of faults.Depth = 3
  place_of faults.Frames = 4
  place_of faults.Attributes = 5
  place_of faults.OutOfMemory = 6

  fault_passes : (fault : ParseFault) (text : List ℕ) → HasFault rule frames text fault → Passes (place_of fault) text
  fault_passes (faults.Lex kind place) text h = tt
  fault_passes faults.Nesting text h = (h.0.0, h.0.1)
  fault_passes faults.Grammar text h = (h.0.0, h.0.1, h.0.2)
  fault_passes faults.Depth text h = (h.0.0, h.0.1)
  fault_passes faults.Frames text h = (h.0.0, h.0.1, h.0.2)
  fault_passes faults.Attributes text h = (h.0.0, h.0.1, h.0.2, h.0.3)
  fault_passes faults.OutOfMemory text h = absurd (h.1 refl)

  fault_stops : (fault : ParseFault) (text : List ℕ) → HasFault rule frames text fault → Passes (suc (place_of fault)) text → ⊥
  fault_stops (faults.Lex kind place) text h p = texts.not_both text p.1.tokens kind place p.1.has h.0
  fault_stops faults.Nesting text h p =
      let same : h.0.0 ≡ p.0 = words_same text h.0.0 p.0 h.0.1 p.1 in
      let both : true ≡ false = sym h.0.2 ∙ ap nests_too_deep same ∙ p.2 in
      absurd cc
  fault_stops faults.Grammar text h p = h.0.3 p.0 (subst (λ ws. rule ws p.0) (words_same text p.1.ws h.0.0 p.1.has h.0.1) p.1.reads)
  fault_stops faults.Depth text h p =
      let same : h.0.0 ≡ p.0 = spells_same text h.0.0 p.0 h.0.1 p.1 in
      let high : height_limit < height p.0 = subst (λ x. height_limit < height x) same h.0.2 in
      above_not (height p.0) height_limit p.2 high
  fault_stops faults.Frames text h p =
      let same : h.0.0 ≡ p.0 = spells_same text h.0.0 p.0 h.0.1 p.1 in
      let many : frame_limit < frames p.0 = subst (λ x. frame_limit < frames x) same h.0.3 in
      above_not (frames p.0) frame_limit p.3 many
  fault_stops faults.Attributes text h p =
      let same : h.0.0 ≡ p.0 = spells_same text h.0.0 p.0 h.0.1 p.1 in
      let many : definition_limit < definitions p.0 = subst (λ x. definition_limit < definitions x) same h.0.4 in
      above_not (definitions p.0) definition_limit p.2.few_definitions many
  fault_stops faults.OutOfMemory text h p = h.1 refl

  same_place : (fault other : ParseFault) (text : List ℕ) → HasFault rule frames text fault → HasFault rule frames text other
      → place_of fault ≡ place_of other → fault ≡ other
  same_place (faults.Lex kind place) (faults.Lex other next) text a b e =
      let same = texts.fault_same text kind other place next a.0 b.0 in
      ap (λ k. faults.Lex k place) same.0 ∙ ap (faults.Lex other) same.1
  same_place faults.Nesting faults.Nesting text a b e = refl
  same_place faults.Grammar faults.Grammar text a b e = refl
  same_place faults.Depth faults.Depth text a b e = refl
  same_place faults.Frames faults.Frames text a b e = refl
  same_place faults.Attributes faults.Attributes text a b e = refl
  same_place faults.OutOfMemory faults.OutOfMemory text a b e = refl
  same_place fault other text a b e = absurd (omega arith)

  not_before : (fault other : ParseFault) (text : List ℕ) → HasFault rule frames text fault → HasFault rule frames text other
      → place_of fault < place_of other → ⊥
  not_before fault other text a b before =
      fault_stops fault text a (passes_below (suc (place_of fault)) (place_of other) text before (fault_passes other text b))

  one_fault : (text : List ℕ) (fault other : ParseFault) → HasFault rule frames text fault → HasFault rule frames text other → fault ≡ other
  one_fault text fault other a b =
      elim (cases_lt (place_of fault) (place_of other)) [
        | inl before ↦ absurd (not_before fault other text a b before)
        | inr after ↦
            elim (cases_lt (place_of other) (place_of fault)) [
              | inl before ↦ absurd (not_before other fault text b a before)
              | inr within ↦ same_place fault other text a b (omega arith)
            ]
      ]

  place_low : (fault : ParseFault) → suc (place_of fault) ≤ 7
  place_low (faults.Lex kind place) = omega arith
  place_low fault = omega arith

  not_both : (text : List ℕ) (x : Inline) (fault : ParseFault) → Spells rule text x → IsWithin frames x → HasFault rule frames text fault → ⊥
  not_both text x fault s w h = fault_stops fault text h (passes_below (suc (place_of fault)) 7 text (place_low fault) (x, s, w))

  -- every text has an answer
  abbrev HasSome : List ℕ → Type 0
  HasSome text = ((x : Inline) × Spells rule text x × IsWithin frames x) ⊎ ((fault : ParseFault) × HasFault rule frames text fault)

  counted : (text : List ℕ) (x : Inline) → Spells rule text x → HasSome text
  counted text x s = by (limited frames x) (limited-has rule frames text x s)
    where
      by : (outcome : Result Inline ParseFault) → HasOutcome rule frames text outcome → HasSome text
      by (Ok y) has = inl (y, has.0, has.1)
      by (Err fault) has = inr (fault, has)

  spelled : (text : List ℕ) (ws : List Word) → HasWords text ws → HasSome text
  spelled text ws has =
      elim (cases_Bool (nests_too_deep ws)) [
        | inl deep ↦ inr (faults.Nesting, ((ws, has, deep), λ e. absurd cc))
        | inr shallow ↦
            elim (decided ws) [
              | inl found ↦ counted text found.0 (record { ws = ws; has = has; shallow = shallow; reads = found.1 })
              | inr none ↦ inr (faults.Grammar, ((ws, has, shallow, none), λ e. absurd cc))
            ]
      ]

  has_some : (text : List ℕ) → HasSome text
  has_some text =
      elim (texts.has_answer text) [
        | inl found ↦ spelled text (words found.0) (record { tokens = found.0; has = found.1; are = refl })
        | inr found ↦ inr (faults.Lex found.0 found.1, (found.2, λ e. absurd cc))
      ]

  pub one_answer : (text : List ℕ) → HasOneAnswer rule frames text
  one_answer text = record { some = has_some text; one_tree = spells_same text; one_fault = one_fault text; not_both = not_both text }
