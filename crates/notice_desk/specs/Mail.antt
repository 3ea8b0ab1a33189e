-- What contracts see of a mailbox, and what a delivery does to it.
use Rattle.std.specs.Prelude.{◌≡◌, ℕ, ◌≤◌, List, [], ◌∷◌, ◌++◌, Option, option_map}
use Rattle.pool_io.specs.Flow.{Rose}
use Rattle.pool_io.specs.Memory.{next_count}

-- a mailbox: the bytes that it took where it tells them, how often it was called, and how often it has failed
pub record Taking : Type 0 where
  pub taken : Option (List ℕ)
  pub calls : ℕ
  pub faults : ℕ

-- the call is counted, and a box that tells has the notice and a line feed behind what it had
pub record Takes (old new : Taking) (notice : List ℕ) : Type 0 where
  pub called : new.calls ≡ next_count old.calls
  pub never_less : old.calls ≤ new.calls
  pub later : old.faults ≤ new.faults
  pub took : new.taken ≡ option_map (λ bytes. bytes ++ (notice ++ 10 ∷ [])) old.taken

-- the call and the fault are counted, and nothing was taken
pub record Refuses (old new : Taking) : Type 0 where
  pub called : new.calls ≡ next_count old.calls
  pub never_less : old.calls ≤ new.calls
  pub later : old.faults ≤ new.faults
  pub cause : Rose old.faults new.faults
  pub nothing : new.taken ≡ old.taken
