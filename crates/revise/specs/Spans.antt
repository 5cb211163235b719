-- Whether the diversity of a set counts the length of a record.
use Rattle.std.specs.Prelude.{if◌then◌else◌, ℕ, Bool, ◌&&◌, List, eqb}
use Rattle.diversity.specs.Diversity.{within, elsewhere}

-- set s spans the branch of record r, "its diversity counts that length": rooted (way 0) where r is, or has below it, a chosen taxon; unrooted
-- (way 1) where there is a chosen taxon at or below r and a chosen taxon elsewhere
unfoldable pub spans : List ℕ → ℕ → List ℕ → ℕ → Bool
spans o way s r = if eqb way 0 then within o s r else (within o s r && elsewhere o s r)
