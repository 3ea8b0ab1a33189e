-- The script of a workload of n machines: the machines, the priorities of two users, half as many jobs of theirs, a query, and a
-- negotiation.
use Rattle.std.specs.Prelude.{ℕ, ◌+◌, ◌*◌, ◌/◌, ◌%◌, ◌==◌, List, ◌++◌, codes, decimal, if◌then◌else◌}
use Rattle.std.specs.List.{flat_map, range_with_len}

-- the ad of the machine of a number, which is of one of four architectures and one of eight sizes
unfoldable pub machine_ad : ℕ → List ℕ
machine_ad i =
    codes "[ Arch = \"A" ++ decimal (i % 4) ++ codes "\"; Memory = " ++ decimal (64 * (1 + i % 8))
    ++ codes "; Load = Memory / 64; Requirements = TARGET.Owner != \"guest\" && Load < 9 ]"

-- the command with that ad on a line, and a line of one dot
abbrev pub machine : ℕ → List ℕ
machine i = codes "advertise m" ++ decimal i ++ codes " 600\n" ++ machine_ad i ++ codes "\n.\n"

-- the commands that set the priorities of the two users
abbrev pub priorities : List ℕ
priorities = codes "priority alice 1\npriority bob 3\n"

-- whose the job of a number is
unfoldable pub owner : ℕ → List ℕ
owner j = if j % 2 == 0 then codes "alice" else codes "bob"

-- the ad of the job of a number, which asks for one of the four architectures
unfoldable pub job_ad : ℕ → List ℕ
job_ad j =
    codes "[ Owner = \"" ++ owner j ++ codes "\"; Requirements = TARGET.Arch == \"A" ++ decimal (j % 4)
    ++ codes "\" && TARGET.Memory >= 128; Rank = TARGET.Memory ]"

-- the command with that ad on a line, and a line of one dot
abbrev pub job : ℕ → List ℕ
job j = codes "submit j" ++ decimal j ++ codes " " ++ owner j ++ codes "\n" ++ job_ad j ++ codes "\n.\n"

-- the command that asks for the machines of one architecture
abbrev pub query : List ℕ
query = codes "query\n[ Owner = \"q\"; Requirements = TARGET.Arch == \"A1\"; Rank = TARGET.Load ]\n.\n"

-- the whole script
abbrev pub workload : ℕ → List ℕ
workload n = flat_map machine (range_with_len 0 n) ++ priorities ++ flat_map job (range_with_len 0 (n / 2)) ++ query ++ codes "negotiate\n"
