-- Bytes that are cut at their first line feed.
use Rattle.std.specs.Prelude.{◌≡◌, ℕ, List, [], ◌∷◌, ◌++◌}
use Rattle.pool_text.specs.Lines.{ended}

-- the bytes are one line, a line feed, and what stands behind it; and the line is also told with its feed
pub record CutsAtFeed (bytes line with_feed behind : List ℕ) : Type 0 where
  pub one_line : ended line ≡ []
  pub feed : with_feed ≡ line ++ 10 ∷ []
  pub parts : line ++ 10 ∷ behind ≡ bytes
