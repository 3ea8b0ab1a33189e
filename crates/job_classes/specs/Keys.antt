-- What of a request counts in the matching with some ads: the attributes that are reached, by their folded names in order, with their printed text.
use Rattle.std.specs.Prelude.{ℕ, ◌+◌, ◌*◌, ◌%◌, ◌^◌, List, [], ◌∷◌, None, Some, Contains, ◌≡◌, if◌then◌else◌}
use Rattle.std.specs.List.{filter_map}
use Rattle.std.specs.Ordering.{is_lt, nat_cmp}
use Rattle.std.specs.Cmp.Lexicographic.{slice_cmp}
use Rattle.pool_text.specs.Folding.{folded}
use Rattle.pool_text.specs.Digests.{name_digest}
use Rattle.ad_tree.specs.Tree.{Tree}
use Rattle.ad_tree.specs.Names.{has_name}
use Rattle.ad_tree.specs.Frames.{Frame, attributes_at}
use Rattle.ad_tree.specs.Inline.{spelled_tree}
use Rattle.ad_printer.specs.Printed.{printed}
use Rattle.significant_attrs.specs.Reach.{IsReached, first_names, reached_from}

-- an entry: a folded name and a text
abbrev pub Entry : Type 0
Entry = List ℕ × List ℕ

-- a number of 64 bits that entries give behind those that gave h
abbrev pub digest_behind : ℕ → List Entry → ℕ
digest_behind h [] = h
digest_behind h (e ∷ es) = digest_behind (((h * 31) % (2 ^ 64) + name_digest e.1) % (2 ^ 64)) es

-- the entry of an attribute of the root
abbrev pub entry_of : List Frame → List ℕ × Tree → Entry
entry_of request a = (folded a.0, printed (spelled_tree request a.1))

-- an entry among others that are in order: before the first whose name is greater
abbrev pub entered : Entry → List Entry → List Entry
entered e [] = e ∷ []
entered e (other ∷ others) = if is_lt (slice_cmp nat_cmp e.0 other.0) then e ∷ (other ∷ others) else other ∷ entered e others

-- entries in order, each entered in turn among those before it
abbrev pub arranged : List Entry → List Entry → List Entry
arranged done [] = done
arranged done (e ∷ es) = arranged (entered e done) es

-- the entries of the attributes whose names are among these
abbrev pub entries : List (List ℕ) → List Frame → List Entry
entries names request = filter_map (λ a. if has_name a.0 names then Some (entry_of request a) else None) (attributes_at request 0)

-- the key of a request, by the names from which the matching goes on
abbrev pub key_from : List (List ℕ) → List Frame → List Entry
key_from first request = arranged [] (entries (reached_from first request) request)

-- the key of a request beside these ads
abbrev pub key_of : List (List Frame) → List Frame → List Entry
key_of ads request = key_from (first_names ads) request

-- an attribute of the root that is reached has this entry
pub record IsEntry (first : List (List ℕ)) (request : List Frame) (e : Entry) : Type 0 where
  pub attribute : List ℕ × Tree
  pub stands : Contains (attributes_at request 0) attribute
  pub reached : IsReached first request (folded attribute.0)
  pub is : e ≡ entry_of request attribute
