-- What redis-server 7.0.15 writes after HELLO 3 (crates/resp3_vectors/judges/server.py asks for it): for DEBUG PROTOCOL of each kind, and for commands a simple
-- string, a simple error, an integer below zero and a null inside an array. A blob error it does not write. Assumes nothing.
use Rattle.std.specs.Prelude.{◌≡◌, refl, true, false, pos, negsuc}
use Rattle.decimal.specs.Digits.{digits}
use Rattle.buffer.specs.Ascii.{ascii}
use Rattle.resp3.specs.Value.{blob_string, simple_string, simple_error, number, null, double, boolean, verbatim_string, big_number, array, map, set}
use Rattle.resp3.specs.Value.{attribute, push, none, more, nil, pair, encode}

-- opens the writing of values
unfoldable written : Unit {0}
unfolding encode digits
written = tt

scalars :
    (encode (blob_string (ascii "Hello World")) ≡ ascii "$11\r\nHello World\r\n")
    × (encode (number (pos 12345)) ≡ ascii ":12345\r\n")
    × (encode (double (ascii "3.141")) ≡ ascii ",3.141\r\n")
    × (encode null ≡ ascii "_\r\n")
    × (encode (boolean true) ≡ ascii "#t\r\n")
    × (encode (boolean false) ≡ ascii "#f\r\n")
    × (encode (verbatim_string (ascii "txt") (ascii "This is a verbatim\nstring")) ≡ ascii "=29\r\ntxt:This is a verbatim\nstring\r\n")
    × (encode (big_number (ascii "1234567999999999999999999999999999999")) ≡ ascii "(1234567999999999999999999999999999999\r\n")
unfolding written
scalars = (refl, refl, refl, refl, refl, refl, refl, refl)

-- three numbers, as an array and as a set
three-numbers :
    (encode (array (more (number (pos 0)) (more (number (pos 1)) (more (number (pos 2)) none)))) ≡ ascii "*3\r\n:0\r\n:1\r\n:2\r\n")
    × (encode (set (more (number (pos 0)) (more (number (pos 1)) (more (number (pos 2)) none)))) ≡ ascii "~3\r\n:0\r\n:1\r\n:2\r\n")
unfolding written
three-numbers = (refl, refl)

three-pairs :
    encode (map (pair (number (pos 0)) (boolean false) (pair (number (pos 1)) (boolean true) (pair (number (pos 2)) (boolean false) nil))))
    ≡ ascii "%3\r\n:0\r\n#f\r\n:1\r\n#t\r\n:2\r\n#f\r\n"
unfolding written
three-pairs = refl

-- an attribute is its pairs and then one value
an-attribute :
    encode (attribute (pair (blob_string (ascii "key-popularity")) (array (more (blob_string (ascii "key:123")) (more (number (pos 90)) none))) nil)
    (blob_string (ascii "Some real reply following the attribute")))
    ≡ ascii "|1\r\n$14\r\nkey-popularity\r\n*2\r\n$7\r\nkey:123\r\n:90\r\n$39\r\nSome real reply following the attribute\r\n"
unfolding written
an-attribute = refl

a-push : encode (push (more (blob_string (ascii "server-cpu-usage")) (more (number (pos 42)) none))) ≡ ascii ">2\r\n$16\r\nserver-cpu-usage\r\n:42\r\n"
unfolding written
a-push = refl

-- a command in a transaction, a command for another kind of value, PTTL of a key that is not there, and MGET of one key that is there and one that is not
replies :
    (encode (simple_string (ascii "QUEUED")) ≡ ascii "+QUEUED\r\n")
    × (encode (simple_error (ascii "WRONGTYPE Operation against a key holding the wrong kind of value"))
    ≡ ascii "-WRONGTYPE Operation against a key holding the wrong kind of value\r\n")
    × (encode (number (negsuc 1)) ≡ ascii ":-2\r\n")
    × (encode (array (more (blob_string (ascii "1")) (more null none))) ≡ ascii "*2\r\n$1\r\n1\r\n_\r\n")
unfolding written
replies = (refl, refl, refl, refl)
