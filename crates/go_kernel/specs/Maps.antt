-- Maps (Go specification, "Map types", "Index expressions", "Deletion of map elements", "For statements with range
-- clause"). A map keeps its entries in order of insertion, and an overwritten key keeps its place.
use Rattle.std.specs.Prelude.{ℕ, suc, ◌%◌, Bool, true, false, not, List, [], ◌∷◌, ◌++◌, length, map}
use Rattle.std.specs.Prelude.{filter, if◌then◌else◌, Option, Some, None, slice_get, codes}
use Rattle.go_kernel.specs.Values.{Value, Truth, Nil, Map, Empty, With, struct_of, or_nil, runtime_error}
use Rattle.go_kernel.specs.Store.{Memory, Entries, allocated, with_cell, entries_at}
use Rattle.go_kernel.specs.Comparisons.{same_value}
use Rattle.go_kernel.specs.Slices.{int}
use Rattle.go_kernel.specs.Actions.{Change, Outcome, Changes, Refuses, Drawing}

-- a key and its element
abbrev pub Entry : Type 0
Entry = Value × Value

-- the element with this key, if there is one
abbrev pub entry_in : Value → List Entry → Option Value
entry_in k [] = None
entry_in k (e ∷ es) = if same_value k e.0 then Some e.1 else entry_in k es

-- the entries with this key's element set; a new key stands last
abbrev pub with_entry : Value → Value → List Entry → List Entry
with_entry k v [] = (k, v) ∷ []
with_entry k v (e ∷ es) = if same_value k e.0 then (e.0, v) ∷ es else e ∷ with_entry k v es

-- the entries without this key
abbrev pub without_entry : Value → List Entry → List Entry
without_entry k es = filter (λ e. not (same_value k e.0)) es

-- nil has no entries
abbrev pub entries_of : Value → Memory → List Entry
entries_of (Map p) c = entries_at p c
entries_of _ c = []

-- `len` of a map
abbrev pub map_len : List Value → Memory → List Value
map_len (m ∷ []) c = int (length (entries_of m c)) ∷ []
map_len _ c = []

-- the element, or the zero value of its type
abbrev pub value_or : Value → Option Value → Value
value_or z None = z
value_or z (Some v) = v

-- whether there was an element, as a truth value
abbrev pub is_there : Option Value → Value
is_there None = Truth false
is_there (Some v) = Truth true

-- an element of a map, or the zero value
abbrev pub map_get : Value → List Value → Memory → List Value
map_get z (m ∷ k ∷ []) c = value_or z (entry_in k (entries_of m c)) ∷ []
map_get z _ c = []

-- an element of a map, or the zero value, and whether it is there
abbrev pub map_try : Value → List Value → Memory → List Value
map_try z (m ∷ k ∷ []) c = let v : Option Value = entry_in k (entries_of m c) in value_or z v ∷ is_there v ∷ []
map_try z _ c = []

-- a map in a new cell
abbrev pub new_map : List Entry → Memory → Change
new_map es c = record { values = Map (length c.cells) ∷ []; memory = allocated (Entries es) c; events = [] }

-- keys and values in turn
abbrev pub entries_from : List Value → List Entry → List Entry
entries_from (k ∷ v ∷ vs) es = entries_from vs (with_entry k v es)
entries_from _ es = es

-- a map literal
abbrev pub map_lit : List Value → Memory → Change
map_lit vs c = new_map (entries_from vs []) c

-- an assignment to an element; of nil it panics
abbrev pub map_set : List Value → Memory → Outcome
map_set (Map p ∷ k ∷ v ∷ []) c =
    Changes (record { values = []; memory = with_cell p (Entries (with_entry k v (entries_at p c))) c; events = [] })
map_set (Nil ∷ k ∷ v ∷ []) c = Refuses (runtime_error (codes "nil map"))
map_set _ c = Changes (record { values = []; memory = c; events = [] })

-- `delete` of a map
abbrev pub map_delete : List Value → Memory → Change
map_delete (Map p ∷ k ∷ []) c =
    record { values = []; memory = with_cell p (Entries (without_entry k (entries_at p c))) c; events = [] }
map_delete _ c = record { values = []; memory = c; events = [] }

-- ---- a range over a map

-- the keys of entries
abbrev pub keys_of : List Entry → List Value
keys_of es = map (λ e. e.0) es

-- the key is among these
abbrev pub is_among : Value → List Value → Bool
is_among k [] = false
is_among k (x ∷ xs) = if same_value k x then true else is_among k xs

-- the values that a struct holds, as a list
abbrev pub listed : Value → List Value
listed (With v vs) = v ∷ listed vs
listed _ = []

-- what a range remembers: the keys that it has given, and those that it still owes
abbrev pub range_state : List Value → List Value → Value
range_state given owed = With (struct_of given) (With (struct_of owed) Empty)

-- the keys that a range has given
abbrev pub given_of : Value → List Value
given_of (With given s) = listed given
given_of _ = []

-- the keys that a range still owes
abbrev pub owed_of : Value → List Value
owed_of (With given (With owed s)) = listed owed
owed_of _ = []

-- at first it has given none and owes all
abbrev pub range_map : List Value → Memory → List Value
range_map (m ∷ []) c = range_state [] (keys_of (entries_of m c)) ∷ []
range_map _ c = []

-- the first choice, or 0 where there is none
abbrev pub choice : List ℕ → ℕ
choice [] = 0
choice (d ∷ ds) = d

-- the choices after the first
abbrev pub other_choices : List ℕ → List ℕ
other_choices [] = []
other_choices (d ∷ ds) = ds

-- whether there is a turn, its key and element, and what the range then remembers
abbrev pub turn : Option Value → List Entry → List Value → List Value → List Value
turn None es given owed = Truth false ∷ Nil ∷ Nil ∷ range_state given owed ∷ []
turn (Some k) es given owed =
    Truth true ∷ k ∷ or_nil (entry_in k es) ∷ range_state (given ++ k ∷ []) (filter (λ x. not (same_value k x)) owed)
    ∷ []

-- the number of the key that comes next among n open ones; while none is owed, n itself ends the range
abbrev pub drawn_number : ℕ → ℕ → List Value → ℕ
drawn_number d n [] = d % suc n
drawn_number d n (o ∷ owed) = d % n

-- of the open keys, which the map holds and which were not given, one is drawn; without any, nothing is drawn
abbrev pub drawn : List Entry → List Value → List Value → List Value → List ℕ → Drawing
drawn es given owed [] cs = record { values = turn None es given owed; choices = cs }
drawn es given owed (k ∷ ks) cs =
    record {
      values = turn (slice_get (k ∷ ks) (drawn_number (choice cs) (suc (length ks)) owed)) es given owed;
      choices = other_choices cs;
    }

-- keys that the map no longer holds are owed no more
abbrev pub next_turn : List Entry → List Value → List Value → List ℕ → Drawing
next_turn es given owed cs =
    drawn es given (filter (λ k. is_among k (keys_of es)) owed) (filter (λ k. not (is_among k given)) (keys_of es)) cs

-- the next turn of a range over a map
abbrev pub range_next : List Value → Memory → List ℕ → Drawing
range_next (m ∷ s ∷ []) c cs = next_turn (entries_of m c) (given_of s) (owed_of s) cs
range_next _ c cs = record { values = []; choices = cs }
