-- What the code leaves at each return, as laws: the record and its words, the rows, the calls on the words, the calls by value.
pub mod RecordCode
pub mod RefusalLaws
pub mod OnImageCode
pub mod CallsCode
