-- A table in lent words: the list of its live records, the words of such a list, and when words and a count hold one.
use Rattle.std.specs.Prelude.{ℕ, ◌*◌, ◌≤◌, ◌<◌, ◌≡◌, List, length, take, get_or, Option, None, Some}
use Rattle.std.proofs.lemmas.List.Edits.{sets}
use Rattle.rows.specs.Lists.{pad_to, insert_by, inserted_of, Rising}
use Rattle.rows.specs.Rows.{rows_from, flat}

-- how a record lies in words: how many they are, which, and what they say
pub record Layout (A : Type 0) : Type 0 where
  pub width : ℕ
  pub words_of : A → List ℕ
  pub record_of : List ℕ → A

-- a kind of table: how many places, what stands in a free one, the key that its records rise in, and how they lie in words
pub record Table (A : Type 0) : Type 0 where
  pub room : ℕ
  pub blank : A
  pub key : A → ℕ
  pub layout : Layout A

module _ {A : Type 0} (t : Table A) where
  -- the record at each place
  unfoldable pub rows_of : List ℕ → List A
  rows_of ws = rows_from t.layout.width t.layout.record_of t.room ws

  -- the live records
  abbrev pub live : List ℕ → ℕ → List A
  live ws n = take n (rows_of ws)

  -- the words of a table with these records: blanks, which are zeros, in each free place
  unfoldable pub words_for : List A → List ℕ
  words_for xs = flat t.layout.words_of (pad_to t.room t.blank xs)

  -- the words hold a table of n records: they are the words of these, there is room for them, and they rise
  pub record Held (ws : List ℕ) (n : ℕ) : Type 0 where
    pub words : ws ≡ words_for (live ws n)
    pub within : n ≤ t.room
    pub rising : Rising t.key 0 (live ws n)

  -- the words hold a table of n records, and these are xs
  pub record Holds (ws : List ℕ) (n : ℕ) (xs : List A) : Type 0 where
    pub is : ws ≡ words_for xs
    pub live-is : live ws n ≡ xs
    pub held : Held ws n

  -- u may be put in the place of the record at i: it has its key
  pub record Stands (ws : List ℕ) (n i : ℕ) (u : A) : Type 0 where
    pub there : i < n
    pub same : t.key u ≡ t.key (get_or (rows_of ws) i t.blank)

  -- what is held after an insert, by its answer: with no free place every word stays
  abbrev pub Then : List ℕ → ℕ → A → List ℕ → Option ℕ → Type 0
  Then ws n u ws' None = ws' ≡ ws
  Then ws n u ws' (Some m) = Holds ws' m (insert_by t.key u (live ws n))

  -- u was put under its key, or refused where that would be one record too many
  pub record Entered (ws : List ℕ) (n : ℕ) (u : A) (ws' : List ℕ) (r : Option ℕ) : Type 0 where
    pub answer : r ≡ inserted_of t.room (length (insert_by t.key u (live ws n)))
    pub table : Then ws n u ws' r

  -- the words of u were put at place i, and they say u again
  pub record Put (ws : List ℕ) (i : ℕ) (u : A) (ws' : List ℕ) : Type 0 where
    pub words : ws' ≡ sets ws (i * t.layout.width) (t.layout.words_of u)
    pub back : t.layout.record_of (t.layout.words_of u) ≡ u
