-- What the parts of a line are as JSON. The words of JSON are those of the kit's library json.
use Rattle.std.specs.Prelude.{◌≡◌, ℕ, List, [], ◌∷◌, ◌++◌, Some, None, decimal}
use Rattle.std.specs.Fmt.{signed_decimal}
use Rattle.json.specs.Token.{Token, key, string, number}
use Rattle.loop_station_words.specs.declared.part.Part.{Part}
use Rattle.loop_station_words.specs.declared.part.Part.TheVariants.{Ahead, Count, Lasting, Maybe, Millis, Number, Seconds, Text, Time, Words}

-- a part is its key and its value; words alone are nothing, and a time is some text
abbrev pub IsMember : Part → List Token → Type 0
IsMember (Words words) tokens = tokens ≡ []
IsMember (Text name text) tokens = tokens ≡ key name.now ∷ string text.now ∷ []
IsMember (Number name n) tokens = tokens ≡ key name.now ∷ number (decimal n) ∷ []
IsMember (Maybe words name None) tokens = tokens ≡ []
IsMember (Maybe words name (Some n)) tokens = tokens ≡ key name.now ∷ number (decimal n) ∷ []
IsMember (Count words name n) tokens = tokens ≡ key name.now ∷ number (decimal n) ∷ []
IsMember (Time name micros) tokens = (text : List ℕ) × (tokens ≡ key name.now ∷ string text ∷ [])
IsMember (Seconds name micros) tokens = tokens ≡ key name.now ∷ number (decimal micros) ∷ []
IsMember (Millis name micros) tokens = tokens ≡ key name.now ∷ number (decimal micros) ∷ []
IsMember (Lasting name micros) tokens = tokens ≡ key name.now ∷ number (decimal micros) ∷ []
IsMember (Ahead words name None) tokens = tokens ≡ []
IsMember (Ahead words name (Some micros)) tokens = tokens ≡ key name.now ∷ number (signed_decimal micros) ∷ []

-- the members of all parts, in their order
abbrev pub AreMembers : List Part → List Token → Type 0
AreMembers [] tokens = tokens ≡ []
AreMembers (part ∷ parts) tokens =
    (one : List Token) × (more : List Token) × IsMember part one × AreMembers parts more × (tokens ≡ one ++ more)
