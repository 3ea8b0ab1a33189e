-- What the index keeps of an attribute, and where.
use Rattle.std.specs.Prelude.{ℕ, ℤ, pos, ◌*ℤ◌, Bool, true, false, not, ◌&&◌, List, map, filter, Option, None, Some, option_map, slice_get, if◌then◌else◌}
use Rattle.std.specs.BTreeMap.{is_at}
use Rattle.std.specs.Option.{option_and_then, option_map_or}
use Rattle.pool_text.specs.declared.language.Lit.{Lit}
use Rattle.pool_text.specs.Folding.{folded}
use Rattle.ad_tree.specs.Tree.{Tree, node, literal}
use Rattle.ad_tree.specs.Names.{same_name}
use Rattle.ad_tree.specs.Frames.{attributes_at}
use Rattle.ad_value.specs.Plain.{plain_of_lit}
use Rattle.ad_value.specs.Numbers.{million}
use Rattle.ad_value.specs.Logic.{is_true}
use Rattle.conjunct_plan.specs.declared.test.Test.{Test}
use Rattle.conjunct_plan.specs.Decided.{asked, value_with}
use Rattle.literal_index.specs.declared.place.Kind.{Kind}
use Rattle.literal_index.specs.declared.place.Place.{Place}
use Rattle.literal_index.specs.declared.entry.Entry.{Entry}
use Rattle.literal_index.specs.declared.entry.Choice.{Choice}
use Rattle.literal_index.specs.Digests.{digest, number_of_text}
use Rattle.literal_index.specs.Order.{place_order}
use Rattle.literal_index.specs.Rows.{Row, ad_under}
use Rattle.literal_index.specs.Shortened.{shortened}

-- the literal that an expression is
abbrev pub literal_of : Tree → Option Lit
literal_of (node (literal lit) ts) = Some lit
literal_of t = None

-- what an attribute is, by its literal
abbrev pub kind_of : Option Lit → Kind
kind_of None = Kind.Open
kind_of (Some Lit.Undefined) = Kind.Undefined
kind_of (Some Lit.Error) = Kind.Error
kind_of (Some (Lit.Boolean b)) = Kind.Number
kind_of (Some (Lit.Integer n)) = Kind.Number
kind_of (Some (Lit.Decimal m)) = Kind.Number
kind_of (Some (Lit.Str t)) = Kind.Str

-- the number of a literal: its millionths, shortened, with 1 for true, and a digest for a text
abbrev pub value_of : Option Lit → ℤ
value_of None = pos 0
value_of (Some Lit.Undefined) = pos 0
value_of (Some Lit.Error) = pos 0
value_of (Some (Lit.Boolean true)) = million
value_of (Some (Lit.Boolean false)) = pos 0
value_of (Some (Lit.Integer n)) = shortened (n *ℤ million)
value_of (Some (Lit.Decimal m)) = shortened m
value_of (Some (Lit.Str t)) = number_of_text t

-- the place of attribute k of the ad under a slot
abbrev pub place_of : ℕ → ℕ → (List ℕ × Tree) → Place
place_of slot k a = record {
  name = digest (folded a.0);
  kind = kind_of (literal_of a.1);
  value = value_of (literal_of a.1);
  slot = slot;
  attr = k;
}

-- what is kept of an attribute
abbrev pub entry_of : (List ℕ × Tree) → Entry
entry_of a = record { name = a.0; literal = literal_of a.1 }

-- ---- tests

-- the test is true where its attribute is this literal
abbrev pub holds_with : Test → Lit → Bool
holds_with test lit = is_true (value_with test (plain_of_lit lit))

-- a literal, or none, is of this choice
abbrev pub is_of : Test → Choice → Option Lit → Bool
is_of test Choice.Open None = true
is_of test Choice.Open (Some lit) = false
is_of test Choice.True None = false
is_of test Choice.True (Some lit) = holds_with test lit
is_of test Choice.Untrue None = false
is_of test Choice.Untrue (Some lit) = not (holds_with test lit)

-- the attribute is the one that the test asks for, and of this choice
abbrev pub is_chosen : Test → Choice → Entry → Bool
is_chosen test choice entry = is_of test choice entry.literal && same_name (asked test) entry.name

-- the slots of the attributes that are chosen
abbrev pub chosen_slots : Test → Choice → List (Place × Entry) → List ℕ
chosen_slots test choice entries = map (λ e. e.0.slot) (filter (λ e. is_chosen test choice e.1) entries)

-- ---- pairs of tests

-- the tests ask for one attribute, and its absence makes neither of them true
abbrev pub is_pair : Test → Test → Bool
is_pair first second = same_name (asked first) (asked second) && not (holds_with first Lit.Undefined) && not (holds_with second Lit.Undefined)

-- the attribute is the one that both tests ask for, and its literal makes both true
abbrev pub is_chosen_by_both : Test → Test → Entry → Bool
is_chosen_by_both first second entry = is_chosen first Choice.True entry && is_chosen second Choice.True entry

-- the slots of the attributes that are so
abbrev pub slots_of_both : Test → Test → List (Place × Entry) → List ℕ
slots_of_both first second entries = map (λ e. e.0.slot) (filter (λ e. is_chosen_by_both first second e.1) entries)

-- ---- what stands at a place

-- the place is that of one of these attributes of the ad under a slot
abbrev pub is_place : ℕ → List (List ℕ × Tree) → Place → Bool
is_place slot attrs q = option_map_or (λ a. is_at (place_order (place_of slot q.attr a)) q) (slice_get attrs q.attr) false

-- what is kept at a place of an ad with these attributes
abbrev pub entry_in : List (List ℕ × Tree) → Place → Option Entry
entry_in attrs q = if is_place q.slot attrs q then option_map entry_of (slice_get attrs q.attr) else None

-- what is kept at a place of the ads under slots
abbrev pub entry_at : List Row → Place → Option Entry
entry_at rows q = option_and_then (λ fs. entry_in (attributes_at fs 0) q) (ad_under q.slot rows)
