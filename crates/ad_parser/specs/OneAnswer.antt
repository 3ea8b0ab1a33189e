-- Each text has one answer.
use Rattle.std.specs.Prelude.{◌≡◌, ◌≢◌, ◌⊎◌, ℕ, List}
use Rattle.ad_tree.specs.Inline.{Inline}
use Rattle.ad_parser.specs.declared.fault.ParseFault.{ParseFault}
use Rattle.ad_parser.specs.declared.fault.ParseFault.TheVariants.{OutOfMemory}
use Rattle.ad_parser.specs.Answers.{Spells, IsWithin, IsFault}
use Rattle.ad_grammar.specs.Words.{Word}

-- a fault that the text has, whatever the memory
abbrev pub HasFault : (List Word → Inline → Type 0) → (Inline → ℕ) → List ℕ → ParseFault → Type 0
HasFault rule frames text fault = IsFault rule frames text fault × (fault ≢ OutOfMemory)

-- a text has one tree within the limits or one fault, and not both, by a rule of the grammar and a count of frames
pub record HasOneAnswer (rule : List Word → Inline → Type 0) (frames : Inline → ℕ) (text : List ℕ) : Type 0 where
  pub some : ((x : Inline) × Spells rule text x × IsWithin frames x) ⊎ ((fault : ParseFault) × HasFault rule frames text fault)
  pub one_tree : (x y : Inline) → Spells rule text x → Spells rule text y → x ≡ y
  pub one_fault : (fault other : ParseFault) → HasFault rule frames text fault → HasFault rule frames text other → fault ≡ other
  pub not_both : (x : Inline) (fault : ParseFault) → Spells rule text x → IsWithin frames x → HasFault rule frames text fault → ⊥
