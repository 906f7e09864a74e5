-- Files that can't be opened.
use Rattle.std.specs.Prelude.{ℕ, List, ◌++◌, codes}
use Rattle.lin_json.specs.Answers.{file_front}
use Rattle.lin_json.specs.Strings.{string_json}

-- what is said of a file of this name: nothing is known of its history, and a run ends with 6
abbrev pub unopened_json : List ℕ → List ℕ
unopened_json name = file_front name ++ codes "\"valid?\":\"unknown\",\"status\":6,\"answer\":" ++ string_json (codes "cannot open " ++ name) ++ codes "}"
