-- The trace of a generator: the calls that it has given, each by its path (this project's own: in
-- Jepsen, an asking gives a new generator).
use Rattle.std.specs.Prelude.{ℕ, ◌==◌, List, [], ◌∷◌, if◌then◌else◌}

-- the members that a call came by, each by its number in the one around it, the outermost first
abbrev pub Path : Type 0
Path = List ℕ

-- the paths of the calls that were given, the newest first; its length is their number
abbrev pub Trace : Type 0
Trace = List Path

-- a trace, with a path before it if it is one of member i, that number taken off
abbrev pub trace_with : ℕ → Path → Trace → Trace
trace_with i [] rest = rest
trace_with i (j ∷ path) rest = if j == i then path ∷ rest else rest

-- the part of a trace that came by member i: the paths that begin with i, that number taken off
abbrev pub trace_under : ℕ → Trace → Trace
trace_under i [] = []
trace_under i (path ∷ trace) = trace_with i path (trace_under i trace)
